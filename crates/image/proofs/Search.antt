-- A search among numbers finds exactly what is there. Assumes nothing.
use mathlib.Core.Path.{◌≡◌, refl}
use mathlib.Core.Bool.{Bool, true, false, cond, true≢false, false≢true}
use Prim.Native.Nat.{ℕ, zero, suc, ◌+◌, ◌<◌}
use native.Mathlib.Omega.{arith}
use native.Mathlib.Numerals.{add-one}
use lib.Dec.{ltb}
use borrow.Author.Tests.{ltb-true, ltb-false}
use Rattle.promise.proofs.Basics.{split, or_none}
use Rattle.image.specs.Tests.{some_below}

pub or_false : (a b : Bool) → cond a true b ≡ false → (a ≡ false) × (b ≡ false)
or_false true b e = absurd (true≢false e)
or_false false b e = (refl, e)

pub must_pass : (a b : Bool) → cond a b true ≡ false → (a ≡ true) × (b ≡ false)
must_pass true b e = (refl, e)
must_pass false b e = absurd (true≢false e)

-- a test that cannot be true
pub refuted : (t : Bool) → (t ≡ true → ⊥) → t ≡ false
refuted true f = absurd (f refl)
refuted false f = refl

-- ---- numbers under k

module _ (test : ℕ → Bool) where
  pub none_below : (k : ℕ) → some_below k test ≡ false → (n : ℕ) → n < k → test n ≡ false
  unfolding some_below
  none_below zero e n h = absurd (let y : ⊥ = omega arith in y)
  none_below (suc k) e n h =
      let f = or_false (some_below k test) (test k) e in
      split (ltb n k) (λ t. none_below k f.0 n (ltb-true n k t))
      (λ t. let q : n ≡ k = omega (arith, ltb-false n k t) in rw q f.1)

  pub some_below_lem : (k : ℕ) → some_below k test ≡ true → (n : ℕ) × (n < k) × (test n ≡ true)
  unfolding some_below
  some_below_lem zero e = absurd (false≢true e)
  some_below_lem (suc k) e =
      split (some_below k test) (λ f. let r = some_below_lem k f in (r.0, omega (arith, r.1), r.2)) (λ f. (k, omega arith, simp f at e))

  -- one number more, for which it is false
  pub below_on : (k : ℕ) → some_below k test ≡ false → test k ≡ false → some_below (k + 1) test ≡ false
  unfolding some_below
  below_on k p q = rw (add-one, p) q

  -- a number that is there is found
  pub below_found : (i k : ℕ) → i < k → test i ≡ true → some_below k test ≡ true
  unfolding some_below
  below_found i zero h p = absurd (let z : ⊥ = omega arith in z)
  below_found i (suc k) h p =
      split (ltb i k) (λ e. rw (below_found i k (ltb-true i k e) p))
      (λ e. let q : i ≡ k = omega (arith, ltb-false i k e) in split (some_below k test) (λ f. rw f) (λ f. rw (f, ← q, p)))

  -- from the first number on
  pub below_first : (k : ℕ) → some_below (suc k) test ≡ cond (test zero) true (some_below k (λ i. test (suc i)))
  unfolding some_below
  below_first zero = or_none (test zero)
  below_first (suc k) = rw (below_first k) (or_or (test zero) (some_below k (λ i. test (suc i))) (test (suc k)))
    where
      or_or : (a b c : Bool) → cond (cond a true b) true c ≡ cond a true (cond b true c)
      or_or true b c = refl
      or_or false b c = refl

-- tests that agree under k
pub below_same : (k : ℕ) (test other : ℕ → Bool) → ((i : ℕ) → i < k → test i ≡ other i) → some_below k test ≡ some_below k other
unfolding some_below
below_same zero test other f = refl
below_same (suc k) test other f = rw (below_same k test other (λ i h. f i (omega arith)), f k (omega arith))
