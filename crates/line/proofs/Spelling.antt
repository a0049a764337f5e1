-- A text of digits spells the bytes of its pairs, and no others: digits and spelling, by what a byte counts as a digit.
-- Assumes nothing.
use mathlib.Core.Path.{◌≡◌, refl}
use mathlib.Core.Bool.{true, false, false≢true}
use mathlib.Core.List.{List, [], ◌∷◌}
use Prim.Native.Nat.{ℕ, ◌+◌, ◌-◌, ◌*◌, ◌%◌, ◌≤◌, ◌<◌}
use native.Mathlib.Omega.{arith}
use lib.ListN.{length}
use lib.Dec.{leb}
use borrow.Author.Tests.{leb-true, le-leb, lt-leb, lt-ltb}
use Rattle.line.specs.Digits.{between, digit_val, is_digit, all_digits, pair_val, values_of}
use Rattle.line.specs.LineForm.{Digit, numeral, capital, small, Spells, none, pair}
use Rattle.promise.proofs.Basics.{split, and_true}

-- ---- a digit's value

within : (lo hi b : ℕ) → lo ≤ b → b ≤ hi → between lo hi b ≡ true
within lo hi b g h = rw (le-leb lo b g) (le-leb b hi h)

above : (lo hi b : ℕ) → hi < b → between lo hi b ≡ false
above lo hi b h = split (leb lo b) (λ e. rw e (lt-leb b hi h)) (λ e. rw e)

pub digit_val_lem : {b d : ℕ} → Digit b d → digit_val b ≡ d
unfolding digit_val
digit_val_lem (numeral d h) = rw (within 48 57 (48 + d) (omega arith) (omega arith)) (omega arith)
digit_val_lem (capital d h) =
    rw (above 48 57 (65 + d) (omega arith), within 65 70 (65 + d) (omega arith) (omega arith)) (omega arith)
digit_val_lem (small d h) =
    rw (above 48 57 (97 + d) (omega arith), above 65 70 (97 + d) (omega arith), within 97 102 (97 + d) (omega arith) (omega arith)) (omega arith)

pub digit_lt : {b d : ℕ} → Digit b d → d < 16
digit_lt (numeral d h) = omega arith
digit_lt (capital d h) = omega arith
digit_lt (small d h) = omega arith

record Within (lo hi b : ℕ) : Type 0 where
  low : lo ≤ b
  high : b ≤ hi

is_within : (lo hi b : ℕ) → between lo hi b ≡ true → Within lo hi b
is_within lo hi b e =
    split (leb lo b) (λ g. record { low = leb-true lo b g; high = leb-true b hi (simp g at e) })
    (λ g. absurd (false≢true (simp g at e)))

as_digit : {b c d e : ℕ} → Digit b d → b ≡ c → d ≡ e → Digit c e
as_digit x p q = rw (p, q) at x

pub val_digit : (b : ℕ) → is_digit digit_val b ≡ true → Digit b (digit_val b)
unfolding digit_val
val_digit b e =
    split (between 48 57 b)
    (λ f. let w = is_within 48 57 b f in simp f (as_digit (numeral (b - 48) (omega arith)) (omega arith) (omega arith)))
    (λ f. split (between 65 70 b)
    (λ g. let w = is_within 65 70 b g in simp (f, g) (as_digit (capital (b - 65) (omega arith)) (omega arith) (omega arith)))
    (λ g. split (between 97 102 b)
    (λ h. let w = is_within 97 102 b h in simp (f, g, h) (as_digit (small (b - 97) (omega arith)) (omega arith) (omega arith)))
    (λ h. absurd (false≢true (simp (f, g, h) at e)))))

-- ---- spelling

pair_is : {a b high low : ℕ} → Digit a high → Digit b low → pair_val digit_val a b ≡ 16 * high + low
unfolding pair_val
pair_is x y = rw (digit_val_lem x, digit_val_lem y) (omega (arith, digit_lt x, digit_lt y))

pub spells_values : {t v : List ℕ} → Spells t v → values_of digit_val t ≡ v
unfolding values_of
spells_values none = refl
spells_values (pair a b high low t v x y s) = rw (pair_is x y, spells_values s)

pub spells_digits : {t v : List ℕ} → Spells t v → all_digits digit_val t ≡ true
unfolding all_digits
spells_digits none = refl
spells_digits (pair a b high low t v x y s) =
    rw (digit_val_lem x, digit_val_lem y, lt-ltb high 16 (digit_lt x), lt-ltb low 16 (digit_lt y)) (spells_digits s)

pub spells-length : {t v : List ℕ} → Spells t v → length t ≡ 2 * length v
spells-length none = refl
spells-length (pair a b high low t v x y s) = omega (arith, spells-length s)

pub values_spelled : (t : List ℕ) → all_digits digit_val t ≡ true → length t % 2 ≡ 0 → Spells t (values_of digit_val t)
unfolding all_digits values_of
values_spelled [] e p = none
values_spelled (a ∷ []) e p = absurd (let y : ⊥ = omega arith in y)
values_spelled (a ∷ b ∷ t) e p =
    let f = and_true (is_digit digit_val a) _ e in
    let g = and_true (is_digit digit_val b) _ f.1 in
    let x = val_digit a f.0 in
    let y = val_digit b g.0 in
    rw (pair_is x y) (pair a b (digit_val a) (digit_val b) t (values_of digit_val t) x y (values_spelled t g.1 (omega arith)))
