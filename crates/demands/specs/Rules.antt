-- The house rules (document 02, R-13): the headline and the demands under the rule that the settings carry, verdict 28 by the rule, and
-- what the other rule would have given. Assumes nothing.
use Rattle.std.specs.Prelude.{◌≡◌, ◌⊎◌, ℕ, ◌+◌, ◌/◌, ◌≤◌, ◌<◌, Option, Some}
use mathlib.Core.List.{List, Memᴰ}
use Rattle.summary.specs.Answers.{plain}
use Rattle.image.specs.Meets.{Meets}
use Rattle.summary.specs.declared.Told.{Told}
use Rattle.guide.specs.declared.Words.{Words}
use Rattle.guide.specs.Wire.{Wire, in_use}
use Rattle.guide.specs.Plan.{Reply}
use Rattle.guide.specs.Matched.{Heard, opening, Wants}
use Rattle.session.specs.declared.Settings.{Settings}
use Rattle.session.specs.declared.Handed.{Handed}
use Rattle.session.specs.Terms.{keeping}
use Rattle.session.specs.Reports.{report_of}
use Rattle.session.specs.Begin.{begin_of}
use Rattle.demands.specs.Runs.{sent, after}
use Rattle.demands.specs.Headline.{Allowed, Keeps, target_in, MayBurn}
use Rattle.demands.specs.Demands.{Demand2, Demand3}

-- ---- the headline, of any settings and text, from what its beginning handed back: if the burn was put out, the settings' rule is 1 or 2, and
-- with the places that it keeps free the burn was allowed to be
unfoldable pub SessionHeadline : Wire → Settings → List ℕ → Handed → List Reply → Type 0
SessionHeadline W S text h rs =
    Memᴰ W.burn (sent text h rs) → (kept : ℕ) × Keeps S.rule kept × MayBurn W (keeping kept S) text rs (sent text h rs)

-- ---- the session theorem: demands 2 and 3 with so many places kept free, with the address in use on the wire; rules 1 and 2 are two
-- instances of it

pub record Demanded (W : Wire) (S : Settings) (kept : ℕ) {text : List ℕ} (m : Meets text) (h : Handed) (rs : List Reply) : Type 0 where
  pub demand2 : Demand2 W (keeping kept S) m rs (sent text h rs) (after text h rs)
  pub demand3 : Demand3 W (keeping kept S) m rs (sent text h rs) (after text h rs)

pub record SessionTheorem (S : Settings) {text : List ℕ} (m : Meets text) (h : Handed) (rs : List Reply) : Type 0 where
  pub once : (kept : ℕ) → Keeps S.rule kept → Allowed (keeping kept S) → Demanded (in_use S.address) S kept m h rs
  pub under_rule1 : S.rule ≡ 1 → Allowed (keeping 0 S) → Demanded (in_use S.address) S 0 m h rs
  pub under_rule2 : S.rule ≡ 2 → Allowed (keeping 2 S) → Demanded (in_use S.address) S 2 m h rs

-- ---- what is reported last

abbrev pub reported : List ℕ → Handed → List Reply → Option Told
reported text h rs = report_of (after text h rs).answer

-- ---- 28 PLACES by the rule: under rule 1, k is more than the counter, as document 01 has it; under rule 2, k + 2 is

pub data TooFew (k counter : ℕ) : ℕ → Type 0 where
  under1 : counter < k → TooFew k counter 1
  under2 : counter < k + 2 → TooFew k counter 2

-- steps 1 and 2 were answered in form with these words, none of 23 to 27 applies to them, and the places are too few
pub record ShortOfPlaces (S : Settings) {text : List ℕ} (m : Meets text) (rs : List Reply) : Type 0 where
  pub captured : ℕ
  pub read : Words
  pub left : List Reply
  pub came : Heard (opening S.address S.wanted captured read) rs left
  pub counted : read.counter ≤ 28
  pub same : read.identity ≡ (target_in m).identity
  pub young : 6 ≤ read.revision / 16777216
  pub kind : Wants read.counter read.flag (target_in m).kind
  pub few : TooFew m.meets.laid.configs read.counter S.rule

pub record PlacesExactly (S : Settings) {text : List ℕ} (m : Meets text) (h : Handed) (rs : List Reply) : Type 0 where
  pub only : reported text h rs ≡ Some (plain 28) → ShortOfPlaces S m rs
  pub when : ShortOfPlaces S m rs → reported text h rs ≡ Some (plain 28)

-- ---- the other rule, with the same text, replies and other settings, whatever they are, by the one operation

abbrev pub with_rule : ℕ → Settings → Settings
with_rule r S = record { wanted = S.wanted; limit = S.limit; restore = S.restore; rule = r; address = S.address }

module _ (S : Settings) (text : List ℕ) (rs : List Reply) where
  abbrev pub under : ℕ → Handed
  under r = begin_of (with_rule r S) text

  pub record SameUnderBoth : Type 0 where
    pub requests : sent text (under 2) rs ≡ sent text (under 1) rs
    pub report : reported text (under 2) rs ≡ reported text (under 1) rs

  pub record RulesAgree : Type 0 where
    -- rule 2 puts out and reports what rule 1 does, or it ends with 28
    pub agree : SameUnderBoth ⊎ (reported text (under 2) rs ≡ Some (plain 28))
    -- so what passes under rule 2 passes under rule 1
    pub passes : reported text (under 2) rs ≡ Some (plain 0) → SameUnderBoth × (reported text (under 1) rs ≡ Some (plain 0))
