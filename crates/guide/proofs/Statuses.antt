-- What a status read in step 4 comes to, by its bits, and the statuses before the last. Assumes nothing.
use mathlib.Core.Path.{◌≡◌}
use mathlib.Core.List.{List, ◌∷◌}
use Prim.Native.Nat.{ℕ, zero, suc, ◌%◌, ◌<◌}
use native.Mathlib.Omega.{arith}
use lib.ListN.{length, get_or}
use borrow.Author.Tests.{eq-eqb, ne_eqb}
use Rattle.guide.specs.declared.Polled.TheVariants.{Busy, Passed, Failed}
use Rattle.guide.specs.Judged.{polled_of}

pub busy_is : (w : ℕ) → w % 2 ≡ 0 → polled_of w ≡ Busy
unfolding polled_of
busy_is w e = rw (eq-eqb (w % 2) 0 e)

pub passed_is : (w : ℕ) → w % 64 ≡ 1 → polled_of w ≡ Passed
unfolding polled_of
passed_is w e = rw (ne_eqb (w % 2) 0 (λ f. omega arith), eq-eqb (w % 64) 1 e)

pub failed_is : (w : ℕ) → (w % 2 ≡ 0 → ⊥) → (w % 64 ≡ 1 → ⊥) → polled_of w ≡ Failed
unfolding polled_of
failed_is w e f = rw (ne_eqb (w % 2) 0 e, ne_eqb (w % 64) 1 f)

abbrev pub Clear : List ℕ → Type 0
Clear busy = (i : ℕ) → i < length busy → get_or busy i 0 % 2 ≡ 0

pub clear_more : (w : ℕ) (busy : List ℕ) → w % 2 ≡ 0 → Clear busy → Clear (w ∷ busy)
clear_more w busy e f zero h = e
clear_more w busy e f (suc i) h = f i (omega arith)
