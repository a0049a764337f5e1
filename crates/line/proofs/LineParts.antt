-- Runs of digits, the values of pairs, and parts of a list. Assumes nothing.
use Prim.Native.Nat.{ℕ, zero, suc, ◌+◌, ◌-◌, ◌*◌, ◌/◌, ◌≤◌, ◌<◌}
use mathlib.Core.Bool.{true, false}
use mathlib.Core.List.{List, [], ◌∷◌}
use mathlib.Core.Path.{◌≡◌, refl, ◌∙◌}
use native.Mathlib.Omega.{arith}
use native.Mathlib.Numerals.{add-one}
use lib.ListN.{length, get_or, take, drop, length-drop, drop_of_length-le, get_or-eq_default}
use lib.Seq.{take_all, get_or-drop, get_or-take, slice, slice-cons, length-slice, length-take-le}
use Rattle.pec.specs.Lent.{step_with, run_with}
use Rattle.line.specs.Digits.{is_digit, all_digits, digit_run, pair_val, values_of}
use Rattle.promise.proofs.Basics.{split, drop_at1}

module _ (digit : ℕ → ℕ) where
  -- ---- the run of digits from a place on
  module _ (s : List ℕ) (i : ℕ) where
    pub run_on : i < length s → is_digit digit (get_or s i 0) ≡ true → digit_run digit (drop i s) ≡ suc (digit_run digit (drop (i + 1) s))
    unfolding digit_run
    run_on h e = rw (drop_at1 s i h) (simp e)

    pub run_stop : i < length s → is_digit digit (get_or s i 0) ≡ false → digit_run digit (drop i s) ≡ 0
    unfolding digit_run
    run_stop h e = rw (drop_at1 s i h) (simp e)

    pub run_past : length s ≤ i → digit_run digit (drop i s) ≡ 0
    unfolding digit_run
    run_past h = rw (drop_of_length-le s h)

    pub digits_on : i < length s → is_digit digit (get_or s i 0) ≡ true → all_digits digit (drop i s) ≡ all_digits digit (drop (i + 1) s)
    unfolding all_digits
    digits_on h e = rw (drop_at1 s i h) (simp e)

    pub digits_stop : i < length s → is_digit digit (get_or s i 0) ≡ false → all_digits digit (drop i s) ≡ false
    unfolding all_digits
    digits_stop h e = rw (drop_at1 s i h) (simp e)

    pub digits_past : length s ≤ i → all_digits digit (drop i s) ≡ true
    unfolding all_digits
    digits_past h = rw (drop_of_length-le s h)

  pub run-le : (s : List ℕ) → digit_run digit s ≤ length s
  unfolding digit_run
  run-le [] = omega arith
  run-le (b ∷ s) = split (is_digit digit b) (λ e. simp e (omega (arith, run-le s))) (λ e. simp e (omega arith))

  pub run_digits : (s : List ℕ) → all_digits digit (take (digit_run digit s) s) ≡ true
  unfolding digit_run all_digits
  run_digits [] = refl
  run_digits (b ∷ s) = split (is_digit digit b) (λ e. simp e (run_digits s)) (λ e. simp e)

  -- ---- bytes of pairs of digits
  pub values_length : (t : List ℕ) → length (values_of digit t) ≡ length t / 2
  unfolding values_of
  values_length [] = refl
  values_length (a ∷ []) = refl
  values_length (a ∷ b ∷ s) = omega (arith, values_length s)

  pub values_at_lem : (t : List ℕ) (i : ℕ) → i < length t / 2 →
      get_or (values_of digit t) i 0 ≡ pair_val digit (get_or t (2 * i) 0) (get_or t (2 * i + 1) 0)
  unfolding values_of
  values_at_lem [] i h = absurd (let z : ⊥ = omega arith in z)
  values_at_lem (a ∷ []) i h = absurd (let z : ⊥ = omega arith in z)
  values_at_lem (a ∷ b ∷ s) zero h = refl
  values_at_lem (a ∷ b ∷ s) (suc i) h =
      let p : 2 * suc i ≡ suc (suc (2 * i)) = omega arith in
      let q : 2 * suc i + 1 ≡ suc (suc (2 * i + 1)) = omega arith in
      rw (q, p) (values_at_lem s i (omega arith))

  pub values_past : (t : List ℕ) (i : ℕ) → length t / 2 ≤ i → get_or (values_of digit t) i 0 ≡ 0
  values_past t i h = get_or-eq_default (values_of digit t) 0 (omega (arith, values_length t))

  pub values-lt : (t : List ℕ) (i : ℕ) → get_or (values_of digit t) i 0 < 256
  unfolding values_of pair_val
  values-lt [] i = omega arith
  values-lt (a ∷ []) i = omega arith
  values-lt (a ∷ b ∷ s) zero = omega arith
  values-lt (a ∷ b ∷ s) (suc i) = values-lt s i

-- ---- a part of a list from a place to its end
pub rest_of : (at : ℕ) (s : List ℕ) → take (length s - at) (drop at s) ≡ drop at s
rest_of at s = take_all (length s - at) (drop at s) (omega (arith, length-drop at s))

-- ---- a part of a list, from f to before e
module _ (v : List ℕ) (f e : ℕ) where
  slice_at : f < e → e ≤ length v → slice f e v ≡ get_or v f 0 ∷ slice (f + 1) e v
  slice_at h k = rw (add-one, slice-cons f e v 0)

  slice_end : e ≤ f → e ≤ length v → slice f e v ≡ []
  slice_end h k = drop_of_length-le (take e v) {i = f} (omega (arith, length-take-le e v k))

  pub slice_get : (i : ℕ) → f + i < e → get_or (slice f e v) i 0 ≡ get_or v (f + i) 0
  slice_get i h = get_or-drop f (take e v) i 0 ∙ get_or-take e v (f + i) 0 h

  pub slice_past : (i : ℕ) → e ≤ f + i → e ≤ length v → get_or (slice f e v) i 0 ≡ 0
  slice_past i h k = get_or-eq_default (slice f e v) 0 (omega (arith, length-slice f e v k))

  -- the register over such a part, one value on
  module _ (table : List ℕ) (c : ℕ) where
    pub code_on : f < e → e ≤ length v → run_with table c (slice f e v) ≡ run_with table (step_with table c (get_or v f 0)) (slice (f + 1) e v)
    unfolding run_with
    code_on h k = rw (slice_at h k)

    pub code_end : e ≤ f → e ≤ length v → run_with table c (slice f e v) ≡ c
    unfolding run_with
    code_end h k = rw (slice_end h k)
