-- An accepted text has the facts that the guide's theorems need, so they hold of it. Assumes nothing.
use mathlib.Core.Path.{◌≡◌}
use mathlib.Core.List.{List}
use Prim.Native.Nat.{ℕ, ◌-◌}
use native.Mathlib.Omega.{arith}
use lib.ListN.{length}
use Rattle.cuts.specs.Lines.{lines_of}
use Rattle.line.proofs.Spelling.{spells_values}
use Rattle.image.specs.Check.{check_of}
use Rattle.image.specs.Meets.{numbered, Meets}
use Rattle.image.proofs.LinesAndBytes.{spelled-length, spells_at}
use Rattle.image.proofs.MeetsPass.{spelled_of}
use Rattle.guide.proofs.FileFacts.{values_at, FileFacts}
use Rattle.image.proofs.SummarySays.{summary_says}

module _ (text : List ℕ) (m : Meets text) where
  values_are : (n : ℕ) → values_at text n ≡ numbered m.values n
  values_are n = spells_values (spells_at (spelled_of m) (n - 1))

  pub meets_facts : FileFacts (check_of text).summary text
  meets_facts =
      let v = m.meets in
      let says = summary_says m in
      let size : length (lines_of text) ≡ length m.values = spelled-length (spelled_of m) in
      record {
        lines = omega (arith, says.lines);
        few = omega (arith, says.configs, v.laid.few);
        many = omega (arith, v.laid.count);
        form = λ n g h. rw (values_are n) (v.form n (omega arith) (omega arith));
        burn_last = rw (values_are (length (lines_of text)), size) v.burn_last;
        burn_once = λ n g h b. v.burn_once n (omega arith) (omega arith) (rw (values_are n) at b);
      }
