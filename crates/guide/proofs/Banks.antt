-- The test of the banks passes exactly where banks 0 to k - 1 are 0001 and the others 0000, as in one word. Assumes nothing.
use mathlib.Core.Path.{◌≡◌, refl, sym, ◌∙◌}
use mathlib.Core.Bool.{Bool, true, false, false≢true}
use Prim.Native.Nat.{ℕ, zero, suc, ◌+◌, ◌*◌, ◌/◌, ◌%◌, ◌^◌, ◌≤◌, ◌<◌}
use native.Mathlib.Nat.{zero-div, pow-zero, pow-succ', one-le-pow, div-div-eq-div-mul}
use native.Mathlib.Numerals.{add-one}
use native.Mathlib.Omega.{arith}
use lib.Dec.{eqb, ltb}
use borrow.Author.Tests.{ltb-true, ltb-false, eqb-true, eqb-false, ne_eqb}
use Rattle.promise.proofs.Basics.{split}
use Rattle.guide.specs.Judged.{every_below, bank, bank_in, reports_in, bank_right, banks_right}
use Rattle.guide.specs.Course.{RightBanks}

-- ---- the test, bank by bank

every_true : (n : ℕ) (test : ℕ → Bool) → ((b : ℕ) → b < n → test b ≡ true) → every_below n test ≡ true
unfolding every_below
every_true zero test f = refl
every_true (suc n) test f = rw (every_true n test (λ b h. f b (omega arith)), f n (omega arith))

every_at : (n : ℕ) (test : ℕ → Bool) → every_below n test ≡ true → (b : ℕ) → b < n → test b ≡ true
unfolding every_below
every_at zero test e b h = absurd (let y : ⊥ = omega arith in y)
every_at (suc n) test e b h =
    split (every_below n test)
    (λ f. split (eqb b n) (λ g. rw (eqb-true b n g) (simp f at e)) (λ g. every_at n test f b (omega (arith, eqb-false b n g))))
    (λ f. absurd (false≢true (simp f at e)))

pub every_on : (n : ℕ) (test : ℕ → Bool) → every_below n test ≡ true → test n ≡ true → every_below (n + 1) test ≡ true
unfolding every_below
every_on n test e f = rw (add-one, e, f)

pub every_stop : (n : ℕ) (test : ℕ → Bool) (b : ℕ) → b < n → test b ≡ false → every_below n test ≡ false
every_stop n test b h f = split (every_below n test) (λ e. absurd (false≢true (sym f ∙ every_at n test e b h))) (λ e. e)

pub reports_below : (k b : ℕ) → b < k → reports_in k (bank b) ≡ true
unfolding reports_in
reports_below zero b h = absurd (let y : ⊥ = omega arith in y)
reports_below (suc k) b h = split (eqb k b) (λ e. rw e) (λ e. rw e (reports_below k b (omega (arith, eqb-false k b e))))

reports_from : (k b : ℕ) → k ≤ b → reports_in k (bank b) ≡ false
unfolding reports_in
reports_from zero b h = refl
reports_from (suc k) b h = rw (ne_eqb k b (λ e. omega arith)) (reports_from k b (omega arith))

module _ (k word : ℕ) where
  pub are_right : RightBanks k word → banks_right k word ≡ true
  unfolding banks_right bank_right bank_in
  are_right a =
      every_true 8 _ λ b h.
      split (ltb b k) (λ e. let g = ltb-true b k e in rw (a.used b g, reports_below k b g))
      (λ e. let g = ltb-false b k e in rw (a.unused b g h, reports_from k b g))

  pub right_are : k ≤ 8 → banks_right k word ≡ true → RightBanks k word
  unfolding banks_right bank_right bank_in
  right_are h e =
      record {
        used = λ b g. eqb-true _ _ (rw (reports_below k b g) at (every_at 8 (bank_right k word) e b (omega arith)));
        unused = λ b g j. eqb-true _ _ (rw (reports_from k b g) at (every_at 8 (bank_right k word) e b j));
      }

-- ---- a word at which the banks are right: the hex digit 1 in the k lowest places

unfoldable pub ones : ℕ → ℕ
ones zero = 0
ones (suc k) = 16 * ones k + 1

pub ones_small : (k n : ℕ) → k ≤ n → ones k < 16 ^ n
unfolding ones
ones_small zero n h = one-le-pow n 16 (omega arith)
ones_small (suc k) zero h = absurd (let y : ⊥ = omega arith in y)
ones_small (suc k) (suc n) h = omega (arith, ones_small k n (omega arith), pow-succ' 16 n)

-- the digit in a place but the lowest is a digit of the rest
ones_on : (k b : ℕ) → ones (suc k) / 16 ^ suc b % 16 ≡ ones k / 16 ^ b % 16
unfolding ones
ones_on k b = let e : ones (suc k) / 16 ≡ ones k = omega arith in rw (pow-succ' 16 b, ← div-div-eq-div-mul, e)

ones_below : (k b : ℕ) → b < k → ones k / 16 ^ b % 16 ≡ 1
unfolding ones
ones_below zero b h = absurd (let y : ⊥ = omega arith in y)
ones_below (suc k) zero h = rw pow-zero (omega arith)
ones_below (suc k) (suc b) h = ones_on k b ∙ ones_below k b (omega arith)

ones_from : (k b : ℕ) → k ≤ b → ones k / 16 ^ b % 16 ≡ 0
unfolding ones
ones_from zero b h = rw zero-div
ones_from (suc k) zero h = absurd (let y : ⊥ = omega arith in y)
ones_from (suc k) (suc b) h = ones_on k b ∙ ones_from k b (omega arith)

pub ones_right : (k : ℕ) → RightBanks k (ones k)
ones_right k = record { used = ones_below k; unused = λ b h g. ones_from k b h }
