-- Eight places that are set one after the other. Assumes nothing.
use mathlib.Core.Path.{◌≡◌, refl}
use Prim.Native.Nat.{ℕ, zero, suc, ◌≤◌, ◌<◌}
use native.Mathlib.Omega.{arith}
use lib.ListN.{get_or, set, replicate}
use borrow.Author.Tests.{lt-ltb}
use Rattle.image.specs.Says.{eight_of}

module _ {A : Type 0} (f : ℕ → A) (d : A) where
  pub eight_none : replicate 8 d ≡ eight_of 0 f d
  unfolding eight_of
  eight_none = refl

  -- the next place is set
  pub eight_next : (k : ℕ) → k < 8 → set (eight_of k f d) k (f k) ≡ eight_of (suc k) f d
  unfolding eight_of
  eight_next zero h = refl
  eight_next (suc zero) h = refl
  eight_next (suc (suc zero)) h = refl
  eight_next (suc (suc (suc zero))) h = refl
  eight_next (suc (suc (suc (suc zero)))) h = refl
  eight_next (suc (suc (suc (suc (suc zero))))) h = refl
  eight_next (suc (suc (suc (suc (suc (suc zero)))))) h = refl
  eight_next (suc (suc (suc (suc (suc (suc (suc zero))))))) h = refl
  eight_next (suc (suc (suc (suc (suc (suc (suc (suc k)))))))) h = absurd (let y : ⊥ = omega arith in y)

  -- what stands at a place under k
  pub eight_at : (k i : ℕ) → k ≤ 8 → i < k → get_or (eight_of k f d) i d ≡ f i
  unfolding eight_of
  eight_at k zero g h = rw (lt-ltb 0 k h)
  eight_at k (suc zero) g h = rw (lt-ltb 1 k h)
  eight_at k (suc (suc zero)) g h = rw (lt-ltb 2 k h)
  eight_at k (suc (suc (suc zero))) g h = rw (lt-ltb 3 k h)
  eight_at k (suc (suc (suc (suc zero)))) g h = rw (lt-ltb 4 k h)
  eight_at k (suc (suc (suc (suc (suc zero))))) g h = rw (lt-ltb 5 k h)
  eight_at k (suc (suc (suc (suc (suc (suc zero)))))) g h = rw (lt-ltb 6 k h)
  eight_at k (suc (suc (suc (suc (suc (suc (suc zero))))))) g h = rw (lt-ltb 7 k h)
  eight_at k (suc (suc (suc (suc (suc (suc (suc (suc i)))))))) g h = absurd (let y : ⊥ = omega arith in y)
