-- A refusal has one of document 01's numbers for a file: 1 to 11, or 13. Assumes nothing.
use mathlib.Core.Path.{◌≡◌}
use Prim.Native.Nat.{ℕ, ◌≤◌}
use native.Mathlib.Omega.{arith}
use lib.Dec.{lit≤}
use Rattle.line.specs.declared.Fault.{Fault}
use Rattle.line.specs.declared.Fault.TheVariants.{Char, Pairs, Length, Crc, Form}
use Rattle.line.specs.Reading.{fault_number}
use Rattle.summary.specs.declared.Whole.{Whole}
use Rattle.summary.specs.declared.Whole.TheVariants.{Size, Count, Revision, Device, Burn, Spot, Same}
use Rattle.summary.specs.declared.Refusal.{Refusal}
use Rattle.summary.specs.declared.Refusal.TheVariants as refusal
use Rattle.summary.specs.Answers.{whole_number, refusal_told}

pub record RefusalNumber (n : ℕ) : Type 0 where
  pub some : 1 ≤ n
  pub few : n ≤ 13
  pub not12 : n ≡ 12 → ⊥

-- before the gap
early : {n : ℕ} → 1 ≤ n → n ≤ 11 → RefusalNumber n
early a b = record { some = a; few = omega arith; not12 = λ e. omega arith }

fault_number_lem : (f : Fault) → RefusalNumber (fault_number f)
fault_number_lem Char = early (lit≤ tt) (lit≤ tt)
fault_number_lem Pairs = early (lit≤ tt) (lit≤ tt)
fault_number_lem Length = early (lit≤ tt) (lit≤ tt)
fault_number_lem Crc = early (lit≤ tt) (lit≤ tt)
fault_number_lem Form = early (lit≤ tt) (lit≤ tt)

whole_number_lem : (w : Whole) → RefusalNumber (whole_number w)
whole_number_lem Size = early (lit≤ tt) (lit≤ tt)
whole_number_lem Count = early (lit≤ tt) (lit≤ tt)
whole_number_lem Revision = early (lit≤ tt) (lit≤ tt)
whole_number_lem Device = early (lit≤ tt) (lit≤ tt)
whole_number_lem Burn = early (lit≤ tt) (lit≤ tt)
whole_number_lem Spot = early (lit≤ tt) (lit≤ tt)
whole_number_lem Same = record { some = lit≤ tt; few = lit≤ tt; not12 = λ e. omega arith }

pub refusal_number : (r : Refusal) → RefusalNumber (refusal_told r).number
refusal_number (refusal.Line n r) = fault_number_lem r.fault
refusal_number (refusal.Whole w) = whole_number_lem w
