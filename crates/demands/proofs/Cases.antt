-- Answers of different cases differ. Assumes nothing.
use Prim.Native.Nat.{ℕ}
use mathlib.Core.Path.{◌≡◌}
use native.Mathlib.Omega.{arith}
use Rattle.guide.specs.declared.Verdict.{Verdict}
use Rattle.session.specs.declared.Answer.TheVariants.{Next, Over, BadState}

pub next_bad : {A : Type 0} → Next ≡ BadState → A
next_bad e = let z : ◌≡◌ {A = ℕ} 0 1 = cc in absurd (let y : ⊥ = omega arith in y)

pub next_over : {A : Type 0} {v : Verdict} → Next ≡ Over v → A
next_over e = let z : ◌≡◌ {A = ℕ} 0 1 = cc in absurd (let y : ⊥ = omega arith in y)

pub over_bad : {A : Type 0} {v : Verdict} → Over v ≡ BadState → A
over_bad e = let z : ◌≡◌ {A = ℕ} 0 1 = cc in absurd (let y : ⊥ = omega arith in y)
