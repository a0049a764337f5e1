-- At C0 the headline and demands 2 and 3 are document 01's; and some requests elsewhere, byte by byte. Assumes nothing.
use mathlib.Core.Path.{◌≡◌, refl}
use mathlib.Core.List.{List}
use Prim.Native.Nat.{ℕ}
use Rattle.pec.specs.Pec.{top_bit, shift, shifts, remainder, step, pec_from}
use Rattle.bus.specs.Bus.{eight, framed, write_of, read_address, read_of}
use Rattle.guide.specs.Wire.{as_they_stand, RightAt}
use Rattle.guide.specs.Plan.{Reply}
use Rattle.guide.proofs.LineBytes.{stands}
use Rattle.session.specs.declared.Settings.{Settings}
use Rattle.session.specs.declared.Handed.{Handed}
use Rattle.demands.specs.Runs.{BegunFor}
use Rattle.demands.specs.Addresses.{AtC0, Elsewhere}
use Rattle.demands.proofs.Headline.{headline}
use Rattle.demands.proofs.SessionTheorem.{demanded}

pub at_C0 : (S : Settings) → S.address ≡ 0xC0 → (text : List ℕ) {h : Handed} → BegunFor S text h → (rs : List Reply) → AtC0 S text h rs
at_C0 S e text b rs =
    let right : RightAt S.address as_they_stand = rw e stands in
    record { headline = headline S right text b rs; demanded = λ m. demanded S right m b rs }

pub elsewhere : Elsewhere
unfolding write_of read_of read_address framed eight pec_from step remainder shifts shift top_bit
elsewhere = record { burn10 = refl; burn_c2 = refl; burn_ee = refl; point10 = refl; point_ee = refl; read10 = refl; read_ee = refl }
