-- A line is refused with a number and a place exactly where its table gives them first, and good where it gives none. Assumes nothing.
use mathlib.Core.Path.{◌≡◌, refl, sym, ap, subst, ◌∙◌}
use mathlib.Core.Bool.{Bool, true, false, cond, not, true≢false}
use mathlib.Core.Logic.{◌⊎◌, inl, inr}
use mathlib.Core.List.{List, [], ◌∷◌, ◌++◌}
use Prim.Native.Nat.{ℕ, suc, ◌+◌, ◌-◌, ◌%◌, ◌≤◌, ◌<◌}
use native.Mathlib.Omega.{arith}
use lib.Dec.{eqb, ltb}
use lib.ListN.{length, length-append}
use borrow.Author.Tests.{eqb-false, ne_eqb, ltb-true, lt-ltb}
use Rattle.promise.specs.First.{First}
use Rattle.pec.specs.Pec.{pec}
use Rattle.counts.specs.Counts.{line_number}
use Rattle.line.specs.declared.Line.{Line}
use Rattle.line.specs.declared.Fault.{Fault}
use Rattle.line.specs.declared.Fault.TheVariants.{Char, Length, Crc, Form}
use Rattle.line.specs.declared.LineRefusal.{LineRefusal}
use Rattle.line.specs.Digits.{digit_val, is_digit, all_digits, digit_run, values_of}
use Rattle.line.specs.Places.{fault_at, last_pair, form_place_of}
use Rattle.line.specs.Reading.{LineReading, fault_number, bad_pairs, length_right, crc_right, form_right, read_values, read_digits, read_line}
use Rattle.std.specs.Prelude.{Ok, Err}
use Rattle.line.specs.LineForm.{Digit, Spells}
use Rattle.line.specs.LineTable.{AllDigit, none, more, FirstField, first_digit}
use Rattle.line.specs.LineTable.{LineTable, CHAR, PAIRS, LENGTH, CRC, FORM, LineExactly}
use Rattle.promise.proofs.Basics.{split}
use Rattle.promise.proofs.First.{NoneBefore, none_next, first_one}
use Rattle.line.proofs.LineParts.{values_length}
use Rattle.line.proofs.Spelling.{digit_val_lem, digit_lt, val_digit, spells_values, spells-length, values_spelled}
use Rattle.line.proofs.Order.{layout, layout-length, layout_last, layout_covered, framed_last, framed_covered, Layout, layout_of}
use Rattle.line.proofs.GoodExactly.{pairs_of}
use Rattle.line.proofs.FirstField.{field_is, field_tells, field_fails}

-- ---- digits, and the first byte that is none

is_digit_lem : {b d : ℕ} → Digit b d → is_digit digit_val b ≡ true
is_digit_lem {b} {d} x = lt-ltb (digit_val b) 16 (omega (arith, digit_val_lem x, digit_lt x))

-- the run of digits that a text starts with, and the byte behind it
record FirstBad (t : List ℕ) : Type 0 where
  before : List ℕ
  bad : ℕ
  behind : List ℕ
  text : t ≡ before ++ (bad ∷ behind)
  all : AllDigit before
  never : (d : ℕ) → Digit bad d → ⊥
  run : length before ≡ digit_run digit_val t

first_bad : (t : List ℕ) → all_digits digit_val t ≡ false → FirstBad t
unfolding all_digits digit_run
first_bad [] e = absurd (true≢false e)
first_bad (b ∷ t) e =
    split (is_digit digit_val b)
    (λ d.
    let f = first_bad t (simp d at e) in
    record {
      before = b ∷ f.before;
      bad = f.bad;
      behind = f.behind;
      text = ap (λ (l : List ℕ). b ∷ l) f.text;
      all = more b (digit_val b) f.before (val_digit b d) f.all;
      never = f.never;
      run = simp d (ap suc f.run);
    })
    (λ d.
    record {
      before = [];
      bad = b;
      behind = t;
      text = refl;
      all = none;
      never = λ v x. true≢false (sym (is_digit_lem x) ∙ d);
      run = simp d;
    })

-- where a byte that is no digit stands behind digits, the test fails and the run ends
module _ (bad : ℕ) (behind : List ℕ) (never : (d : ℕ) → Digit bad d → ⊥) where
  no_digit : is_digit digit_val bad ≡ false
  no_digit = split (is_digit digit_val bad) (λ e. absurd (never (digit_val bad) (val_digit bad e))) (λ e. e)

  bad_fails : {before : List ℕ} → AllDigit before → all_digits digit_val (before ++ (bad ∷ behind)) ≡ false
  unfolding all_digits
  bad_fails none = simp no_digit
  bad_fails (more b d t x all) = simp (is_digit_lem x) (bad_fails all)

  run_before : {before : List ℕ} → AllDigit before → digit_run digit_val (before ++ (bad ∷ behind)) ≡ length before
  unfolding digit_run
  run_before none = simp no_digit
  run_before (more b d t x all) = simp (is_digit_lem x) (ap suc (run_before all))

-- ---- counts of digits that no line has

abbrev BadCount : ℕ → Type 0
BadCount d = (d % 2 ≡ 1) ⊎ ((d < 10) ⊎ (74 < d))

count_bad : (d : ℕ) → BadCount d → bad_pairs d ≡ true
unfolding bad_pairs
count_bad d (inl e) = rw (ne_eqb (d % 2) 0 (λ (x : d % 2 ≡ 0). let y : ⊥ = omega arith in y))
count_bad d (inr (inl h)) = split (eqb (d % 2) 0) (λ e. rw (e, lt-ltb d 10 h)) (λ e. rw e)
count_bad d (inr (inr h)) =
    split (eqb (d % 2) 0) (λ e. split (ltb d 10) (λ f. rw (e, f)) (λ f. rw (e, f, lt-ltb 74 d h))) (λ e. rw e)

bad_count : (d : ℕ) → bad_pairs d ≡ true → BadCount d
unfolding bad_pairs
bad_count d e =
    split (eqb (d % 2) 0)
    (λ f. split (ltb d 10) (λ g. inr (inl (ltb-true d 10 g))) (λ g. inr (inr (ltb-true 74 d (simp (f, g) at e)))))
    (λ f. inl (omega (arith, eqb-false (d % 2) 0 f)))

-- ---- a wrong length byte and a wrong last byte fail their tests, in bytes of any count

length_fails : (tag size : ℕ) (behind : List ℕ) → (size ≡ length behind → ⊥) → length_right (tag ∷ size ∷ behind) ≡ false
unfolding length_right
length_fails tag size behind never =
    let all = suc (suc (length behind)) in
    ne_eqb (size + 2) all (λ (e : size + 2 ≡ all). never (omega arith))

crc_fails : (tag size : ℕ) (covered : List ℕ) (crc : ℕ) → (crc ≡ pec covered → ⊥) →
    crc_right pec (tag ∷ size ∷ (covered ++ (crc ∷ []))) ≡ false
unfolding crc_right
crc_fails tag size covered crc never = rw (framed_last, framed_covered) (ne_eqb crc (pec covered) never)

module _ (n : ℕ) (t : List ℕ) (g : 1 ≤ n) where
  abbrev v : List ℕ
  v = values_of digit_val t

  -- ---- by its number alone: the test that a row fails, and the place that it has

  unfoldable passes : ℕ → Bool
  passes m =
      cond (eqb m 2) (all_digits digit_val t)
      (cond (eqb m 3) (not (bad_pairs (length t)))
      (cond (eqb m 4) (length_right v)
      (cond (eqb m 5) (crc_right pec v)
      (form_right (line_number n) v))))

  unfoldable place_by : ℕ → ℕ
  place_by m =
      cond (eqb m 2) (digit_run digit_val t + 1)
      (cond (eqb m 3) (length t + 1)
      (cond (eqb m 4) (first_digit 1)
      (cond (eqb m 5) (length t - 1)
      (form_place_of (line_number n) v))))

  form_fails : {p : ℕ} (tag size address command : ℕ) (content : List ℕ) (crc : ℕ) → FirstField n tag address command (length content) p →
      form_right (line_number n) (layout tag size address command content crc) ≡ false
  unfolding form_right
  form_fails tag size address command content crc f =
      let count : length (layout tag size address command content crc) - 5 ≡ length content =
      omega (arith, layout-length tag size address command content crc) in
      rw count (field_fails g f)

  -- a row fails its test whatever comes before it: a text spells no other bytes than the values that were read
  fails : {m p : ℕ} → LineTable n t m p → passes m ≡ false
  unfolding passes
  fails (CHAR before bad behind e all never) = rw e (bad_fails bad behind never all)
  fails (PAIRS bad) = rw (count_bad (length t) bad)
  fails (LENGTH tag size behind s never) = rw (spells_values s) (length_fails tag size behind never)
  fails (CRC tag size covered crc s never) = rw (spells_values s) (crc_fails tag size covered crc never)
  fails (FORM tag size address command content crc p s f) = rw (spells_values s) (form_fails tag size address command content crc f)

  place_is : {m p : ℕ} → LineTable n t m p → p ≡ place_by m
  unfolding place_by form_place_of
  place_is (CHAR before bad behind e all never) = rw e (ap (λ (k : ℕ). k + 1) (sym (run_before bad behind never all)))
  place_is (PAIRS bad) = refl
  place_is (LENGTH tag size behind s never) = refl
  place_is (CRC tag size covered crc s never) = omega (arith, spells-length s, length-append covered (crc ∷ []))
  place_is (FORM tag size address command content crc p s f) = rw (spells_values s) (field_is g f)

  one_place : (m p q : ℕ) → LineTable n t m p → LineTable n t m q → p ≡ q
  one_place m p q x y = place_is x ∙ sym (place_is y)

  -- ---- what is left where tests have passed

  -- no row before this number applies
  abbrev Unmet : ℕ → Type 0
  Unmet m = NoneBefore (LineTable n t) m

  numbers : {m p : ℕ} → LineTable n t m p → (2 ≤ m) × (m ≤ 6)
  numbers (CHAR before bad behind e all never) = (omega arith, omega arith)
  numbers (PAIRS bad) = (omega arith, omega arith)
  numbers (LENGTH tag size behind s never) = (omega arith, omega arith)
  numbers (CRC tag size covered crc s never) = (omega arith, omega arith)
  numbers (FORM tag size address command content crc p s f) = (omega arith, omega arith)

  none_yet : Unmet 2
  none_yet m p h row = let between = numbers row in omega arith

  none_at_all : Unmet 7 → (m p : ℕ) → LineTable n t m p → ⊥
  none_at_all before m p row = let between = numbers row in before m p (omega arith) row

  passed : {m : ℕ} → Unmet m → passes m ≡ true → Unmet (suc m)
  passed before e = none_next before (λ p row. true≢false (sym e ∙ fails row))

  -- ---- what a reading must tell

  Tells : LineReading → Type 0
  Tells (Ok l) = (m p : ℕ) → LineTable n t m p → ⊥
  Tells (Err r) = First (LineTable n t) (fault_number r.fault) r.place.0

  -- of a test in its turn: where it fails the row of its number applies, and where it passes that row does not
  test_tells : (test : Bool) (x : LineReading) (f : Fault) (p : ℕ) → passes (fault_number f) ≡ test → Unmet (fault_number f) →
      (test ≡ false → LineTable n t (fault_number f) p) → (test ≡ true → Unmet (suc (fault_number f)) → Tells x) →
      Tells (cond test x (Err (fault_at f p)))
  unfolding Tells
  test_tells true x f p is before row later = later refl (passed before is)
  test_tells false x f p is before row later = record { applies = row refl; none = before }

  char_tells : all_digits digit_val t ≡ false → LineTable n t 2 (digit_run digit_val t + 1)
  char_tells e =
      let f = first_bad t e in
      rw (sym f.run) (CHAR f.before f.bad f.behind f.text f.all f.never)

  module _ (tag size address command : ℕ) (content : List ℕ) (crc : ℕ) (s : Spells t (layout tag size address command content crc)) where
    abbrev w : List ℕ
    w = layout tag size address command content crc

    long : length w ≡ 5 + length content
    long = layout-length tag size address command content crc

    length_tells : length_right w ≡ false → LineTable n t 4 (first_digit 1)
    unfolding length_right
    length_tells e =
        let behind = address ∷ command ∷ (content ++ (crc ∷ [])) in
        LENGTH tag size behind s (λ (q : size ≡ length behind). eqb-false (size + 2) (length w) e (omega arith))

    crc_tells : crc_right pec w ≡ false → LineTable n t 5 (last_pair w)
    unfolding crc_right
    crc_tells e =
        let covered = address ∷ command ∷ content in
        let wrong : eqb crc (pec covered) ≡ false = rw (layout_last, layout_covered) at e in
        let told : LineTable n t 5 (first_digit (2 + length covered)) = CRC tag size covered crc s (eqb-false crc (pec covered) wrong) in
        let same : first_digit (2 + length covered) ≡ last_pair w = omega (arith, long) in
        rw same at told

    form_tells : form_right (line_number n) w ≡ false → LineTable n t 6 (form_place_of (line_number n) w)
    unfolding form_right form_place_of
    form_tells e =
        let count : length w - 5 ≡ length content = omega (arith, long) in
        FORM tag size address command content crc _ s (field_tells g (rw count at e))

    laid_tells : Unmet 4 → Tells (read_values pec (line_number n) w)
    unfolding read_values passes Tells
    laid_tells before =
        test_tells (length_right w) _ Length 3 (rw (spells_values s)) before length_tells λ l sized.
        test_tells (crc_right pec w) _ Crc (last_pair w) (rw (spells_values s)) sized crc_tells λ c coded.
        test_tells (form_right (line_number n) w) _ Form (form_place_of (line_number n) w) (rw (spells_values s)) coded form_tells λ f formed.
        none_at_all formed

  values_tell : {u : List ℕ} → Layout u → Spells t u → Unmet 4 → Tells (read_values pec (line_number n) u)
  values_tell o s before =
      rw o.bytes (laid_tells o.tag o.size o.address o.command o.content o.crc (rw o.bytes at s) before)

  digits_tell : all_digits digit_val t ≡ true → Unmet 3 → Tells (read_digits digit_val pec (line_number n) t)
  unfolding read_digits passes Tells
  digits_tell d before =
      split (bad_pairs (length t))
      (λ b. rw b (record { applies = PAIRS (bad_count (length t) b); none = before }))
      (λ b.
      let q = pairs_of (length t) b in
      let o = layout_of v (omega (arith, q.1, values_length digit_val t)) in
      rw b (values_tell o (values_spelled t d q.0) (passed before (rw b))))

  line_tells : Tells (read_line (line_number n) t)
  unfolding read_line passes
  line_tells = test_tells (all_digits digit_val t) _ Char (digit_run digit_val t + 1) refl none_yet char_tells digits_tell

  -- ---- a reading is one of the two, so each tells the other way round too

  abbrev Refuses : LineReading → ℕ → ℕ → Type 0
  Refuses x m p = (r : LineRefusal) × (x ≡ Err r) × (fault_number r.fault ≡ m) × (r.place.0 ≡ p)

  first_refuses : (x : LineReading) → Tells x → (m p : ℕ) → First (LineTable n t) m p → Refuses x m p
  unfolding Tells
  first_refuses (Ok l) tells m p f = absurd (tells m p f.applies)
  first_refuses (Err r) tells m p f = let same = first_one one_place tells f in (r, refl, same.0, same.1)

  none_good : (x : LineReading) → Tells x → ((m p : ℕ) → LineTable n t m p → ⊥) → (l : Line) × (x ≡ Ok l)
  unfolding Tells
  none_good (Ok l) tells never = (l, refl)
  none_good (Err r) tells never = absurd (never _ _ tells.applies)

pub line_exactly : (n : ℕ) (t : List ℕ) → 1 ≤ n → LineExactly n t
unfolding Tells
line_exactly n t g =
    let tells = line_tells n t g in
    record {
      refused = λ r e. subst (Tells n t g) e tells;
      only = first_refuses n t g (read_line (line_number n) t) tells;
      good = λ l e. subst (Tells n t g) e tells;
      none = none_good n t g (read_line (line_number n) t) tells;
    }
