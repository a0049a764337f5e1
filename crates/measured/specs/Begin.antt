-- A beginning with a summary of which some is given: what bench/ measures. Assumes nothing.
use Rattle.std.specs.Prelude.{ℕ, false, List, [], ◌∷◌, get_or, replicate}
use Rattle.counts.specs.Counts.{config_id}
use Rattle.counts.specs.declared.ConfigId.{ConfigId}
use Rattle.counts.specs.declared.Kind.TheVariants.{Production}
use Rattle.summary.specs.declared.Summary.{Summary}
use Rattle.session.specs.declared.Settings.{Settings}
use Rattle.session.specs.Begin.{begin_with}

abbrev pub id : List ℕ → ℕ → ConfigId
id ids i = config_id (get_or ids i 0)

unfoldable pub summary_with : ℕ → ℕ → ℕ → List ℕ → Summary
summary_with n k line5 ids =
    record {
      kind = Production;
      identity = 0x49D28100;
      lines = n;
      configs = k;
      line5 = line5;
      ids = id ids 0 ∷ id ids 1 ∷ id ids 2 ∷ id ids 3 ∷ id ids 4 ∷ id ids 5 ∷ id ids 6 ∷ id ids 7 ∷ [];
      crcs = replicate 8 0xE0CD9882;
    }

-- allowed settings
abbrev pub measuring : Settings
measuring = record { wanted = false; limit = 1; restore = 0xF2; rule = 1; address = 0xC2 }

unfoldable pub sent_at_begin : ℕ → ℕ → ℕ → List ℕ → ℕ
sent_at_begin n k line5 ids = (begin_with measuring (summary_with n k line5 ids)).session.sent
