-- Tests in turn, each true exactly where the row of its turn applies: the first that is true is the first row that applies, and where
-- none is true none applies. Assumes nothing.
use Rattle.std.specs.Prelude.{Ok, Err}
use mathlib.Core.Path.{◌≡◌, refl}
use mathlib.Core.Bool.{Bool, true, false}
use mathlib.Core.List.{List, [], ◌∷◌}
use Prim.Native.Nat.{ℕ, suc, ◌<◌}
use native.Mathlib.Omega.{arith}
use lib.Dec.{ltb}
use borrow.Author.Tests.{ltb-true, ltb-false}
use Rattle.promise.specs.First.{First}
use Rattle.promise.proofs.Basics.{split}
use Rattle.summary.specs.declared.Whole.{Whole}
use Rattle.summary.specs.declared.Refusal.TheVariants as refusal
use Rattle.summary.specs.Answers.{FileAnswer, whole_number}
use Rattle.image.specs.Check.{refused_if, first_refusal}

module _ (Table : ℕ → ℕ → Type 0) where
  -- no row before this turn applies
  abbrev pub NoneBefore : ℕ → Type 0
  NoneBefore turn = (i m : ℕ) → i < turn → Table i m → ⊥

  -- what an answer says of the table
  pub data Ends : FileAnswer → Type 0 where
    passes : ((i m : ℕ) → Table i m → ⊥) → Ends (Ok tt)
    stops : (w : Whole) (turn : ℕ) → First Table turn (whole_number w) → Ends (Err (refusal.Whole w))

module _ {Table : ℕ → ℕ → Type 0} {turn : ℕ} where
  one_more : NoneBefore Table turn → ((m : ℕ) → Table turn m → ⊥) → NoneBefore Table (suc turn)
  one_more before here i m h row =
      split (ltb i turn) (λ e. before i m (ltb-true i turn e) row)
      (λ e. let last : i ≡ turn = omega (arith, ltb-false i turn e) in here m (rw last at row))

  -- the test of this turn, before the rest of the list
  pub in_turn : (test : Bool) (w : Whole) (more : List FileAnswer) → NoneBefore Table turn → (test ≡ true → Table turn (whole_number w)) →
      (test ≡ false → (m : ℕ) → Table turn m → ⊥) → (test ≡ false → NoneBefore Table (suc turn) → Ends Table (first_refusal more)) →
      Ends Table (first_refusal (refused_if test w ∷ more))
  unfolding refused_if first_refusal
  in_turn true w more before here never rest = stops w turn (record { applies = here refl; none = before })
  in_turn false w more before here never rest = rest refl (one_more before (never refl))

  -- no test is left, and no row
  pub at_end : NoneBefore Table turn → ((i m : ℕ) → Table i m → i < turn) → Ends Table (first_refusal [])
  unfolding first_refusal
  at_end before within = passes (λ i m row. before i m (within i m row) row)
