-- Demands 2 and 3 once, for any number of kept places; rules 1 and 2 are its instances. Assumes nothing.
use mathlib.Core.List.{List}
use Prim.Native.Nat.{ℕ}
use Rattle.image.specs.Meets.{Meets}
use Rattle.guide.specs.Wire.{Wire, RightAt, in_use}
use Rattle.guide.specs.Plan.{Reply}
use Rattle.guide.proofs.LineBytes.{in_use_lem}
use Rattle.session.specs.declared.Settings.{Settings}
use Rattle.session.specs.Terms.{keeping}
use Rattle.session.specs.declared.Handed.{Handed}
use Rattle.demands.specs.Runs.{BegunFor}
use Rattle.demands.specs.Headline.{Allowed, Keeps, rule1, rule2}
use Rattle.demands.specs.Rules.{Demanded, SessionTheorem}
use Rattle.demands.proofs.Demand2.{demand2}
use Rattle.demands.proofs.Demand3.{demand3}

pub demanded : (S : Settings) {W : Wire} → RightAt S.address W → {text : List ℕ} (m : Meets text) {h : Handed} → BegunFor S text h → (rs : List Reply)
    → (kept : ℕ) → Keeps S.rule kept → Allowed (keeping kept S) → Demanded W S kept m h rs
demanded S right m b rs kept r a = record { demand2 = demand2 S right r m a rs b; demand3 = demand3 S right r m a rs b }

pub session_theorem : (S : Settings) {text : List ℕ} (m : Meets text) {h : Handed} → BegunFor S text h → (rs : List Reply) → SessionTheorem S m h rs
session_theorem S m {h} b rs =
    record {
      once = once;
      under_rule1 = λ e. once 0 (rw e rule1);
      under_rule2 = λ e. once 2 (rw e rule2);
    }
  where
    once : (kept : ℕ) → Keeps S.rule kept → Allowed (keeping kept S) → Demanded (in_use S.address) S kept m h rs
    once kept r a = demanded S (in_use_lem S.address) m b rs kept r a
