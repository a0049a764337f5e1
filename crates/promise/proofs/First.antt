-- What applies first in a table is one thing, and turns are ruled out one by one. Assumes nothing.
use mathlib.Core.Path.{◌≡◌}
use Prim.Native.Nat.{ℕ, suc, ◌<◌}
use native.Mathlib.Omega.{arith}
use lib.Dec.{eqb, ltb}
use borrow.Author.Tests.{eqb-true, eqb-false, ltb-true, ltb-false}
use Rattle.promise.specs.First.{First}
use Rattle.promise.proofs.Basics.{split}

-- no row of a turn before this one applies
abbrev pub NoneBefore : (ℕ → ℕ → Type 0) → ℕ → Type 0
NoneBefore Table turn = (i a : ℕ) → i < turn → Table i a → ⊥

module _ {Table : ℕ → ℕ → Type 0} where
  -- one more turn is ruled out
  pub none_next : {turn : ℕ} → NoneBefore Table turn → ((a : ℕ) → Table turn a → ⊥) → NoneBefore Table (suc turn)
  none_next {turn} before here i a h row =
      split (eqb i turn)
      (λ e. let same : i ≡ turn = eqb-true i turn e in here a (rw same at row))
      (λ e. before i a (omega (arith, eqb-false i turn e)) row)

  first_not_later : {i j a b : ℕ} → First Table i a → First Table j b → i < j → ⊥
  first_not_later {i} {j} {a} x y h = y.none i a h x.applies

  same_turn : {i j a b : ℕ} → First Table i a → First Table j b → i ≡ j
  same_turn {i} {j} x y =
      split (ltb i j)
      (λ e. absurd (first_not_later x y (ltb-true i j e)))
      (λ e. split (ltb j i)
      (λ f. absurd (first_not_later y x (ltb-true j i f)))
      (λ f. omega (arith, ltb-false i j e, ltb-false j i f)))

  -- where each turn tells at most one thing
  pub first_one : ((i a b : ℕ) → Table i a → Table i b → a ≡ b) → {i j a b : ℕ} → First Table i a → First Table j b → (i ≡ j) × (a ≡ b)
  first_one one {i} {j} {a} {b} x y =
      let same : i ≡ j = same_turn x y in
      let row : Table j a = rw same at x.applies in
      (same, one j a b row y.applies)
