-- What a beginning hands back: when it is 14 or 15, when the file's own number, and that document 01's one operation is a check and a
-- beginning with its summary (document 01, "The session"; document 02, R-3). No promise cites this page: proofs/ shows each of these.
-- Assumes nothing.
use Rattle.std.specs.Prelude.{ℕ, ◌≤◌, ◌≡◌, List, [], ◌∷◌, false, Some}
use Rattle.counts.specs.declared.Kind.TheVariants.{Legacy}
use Rattle.counts.specs.Counts.{line_number, line_place, config_number, config_id}
use Rattle.summary.specs.declared.Told.{Told}
use Rattle.summary.specs.declared.Summary.{Summary}
use Rattle.summary.specs.Answers.{told, plain, answer_told}
use Rattle.image.specs.Check.{check_of}
use Rattle.image.specs.FileTable.{Given}
use Rattle.guide.specs.declared.Verdict.{Verdict}
use Rattle.session.specs.declared.Settings.{Settings}
use Rattle.session.specs.declared.Handed.{Handed}
use Rattle.session.specs.declared.Stage.TheVariants.{Ended}
use Rattle.session.specs.declared.Answer.TheVariants.{Next, Over, BadState}
use Rattle.session.specs.Reports.{report_of}
use Rattle.session.specs.Begin.{begin_with, begin_of}
use Rattle.demands.specs.Exactly.{zeros, SettingOut, SummaryOut}

-- a refused begin hands back an ended state with its verdict, count 0, no burn, and a request of zeros; an accepted one the first
-- request, count 1
pub record Begun (h : Handed) : Type 0 where
  pub refused : (v : Verdict) → h.answer ≡ Over v
      → (h.session.stage ≡ Ended v) × (h.session.sent ≡ 0) × (h.session.burned ≡ false) × (h.request ≡ zeros)
  pub accepted : h.answer ≡ Next → (h.session.sent ≡ 1) × (h.session.hand ≡ h.request) × (h.session.burned ≡ false)
  -- a reply's 15, which leaves a state as it was, is not given: a begin's is a verdict
  pub never : h.answer ≡ BadState → ⊥

-- 14 exactly where a setting is out of its range, whatever the file or the summary; with line 0, place 0 and N 0
pub record FourteenExactly (S : Settings) (h : Handed) : Type 0 where
  pub only : (t : Told) → report_of h.answer ≡ Some t → t.number ≡ 14 → SettingOut S
  pub when : SettingOut S → report_of h.answer ≡ Some (plain 14)

-- a beginning with a summary: where the settings are in their ranges, 15 exactly where the summary is out of its bounds, with line 0, place 0
-- and N 0; and nothing else refuses it
pub record FifteenAtBegin (S : Settings) (f : Summary) : Type 0 where
  pub only : (t : Told) → report_of (begin_with S f).answer ≡ Some t → t.number ≡ 15 → (SettingOut S → ⊥) × SummaryOut f
  pub when : (SettingOut S → ⊥) → SummaryOut f → report_of (begin_with S f).answer ≡ Some (plain 15)
  pub goes : (SettingOut S → ⊥) → (SummaryOut f → ⊥) → (begin_with S f).answer ≡ Next

-- a summary of zeros, of the first kind, written out
abbrev pub nothing : Summary
nothing =
    record {
      kind = Legacy;
      identity = 0;
      lines = 0;
      configs = 0;
      line5 = 0;
      ids = config_id 0 ∷ config_id 0 ∷ config_id 0 ∷ config_id 0 ∷ config_id 0 ∷ config_id 0 ∷ config_id 0 ∷ config_id 0 ∷ [];
      crcs = 0 ∷ 0 ∷ 0 ∷ 0 ∷ 0 ∷ 0 ∷ 0 ∷ 0 ∷ [];
    }

module _ (S : Settings) (text : List ℕ) where
  -- where the settings are in their ranges: a refused file's own number, line and place are reported, exactly where they are its
  pub record FileExactly (inside : SettingOut S → ⊥) : Type 0 where
    pub only : (t : Told) → report_of (begin_of S text).answer ≡ Some t → Given text t.number t.line.0 t.place.0
    pub when : (number line place : ℕ) → 1 ≤ number → Given text number line place
        → report_of (begin_of S text).answer ≡ Some (told number (line_number line) (line_place place) (config_number 0))

  -- document 01's one operation is the two, one behind the other: what the begin with the check's summary hands back; but the summary of a
  -- refused check is of zeros, with which a begin is 15, and there the file's own number is reported
  pub record Composed : Type 0 where
    pub accepted : (answer_told (check_of text).answer).number ≡ 0 → begin_of S text ≡ begin_with S (check_of text).summary
    pub setting : (f : Summary) → SettingOut S → begin_of S text ≡ begin_with S f
    pub zeros : 1 ≤ (answer_told (check_of text).answer).number → (check_of text).summary ≡ nothing
    pub refused : 1 ≤ (answer_told (check_of text).answer).number → (SettingOut S → ⊥)
        → (report_of (begin_with S (check_of text).summary).answer ≡ Some (plain 15)) × (report_of (begin_of S text).answer ≡ Some (answer_told (check_of text).answer))
