-- A line reads as good exactly where it has its form: its text spells bytes that are laid out by a row of the table, with the
-- right length and code. Assumes nothing.
use mathlib.Core.Path.{◌≡◌, refl, sym, ap, ◌∙◌}
use mathlib.Core.Bool.{Bool, true, false, cond, true≢false}
use mathlib.Core.List.{List, ◌∷◌}
use Prim.Native.Nat.{ℕ, ◌+◌, ◌-◌, ◌*◌, ◌%◌, ◌≤◌}
use native.Mathlib.Omega.{arith}
use lib.ListN.{length, get_or}
use lib.Dec.{eqb, ltb}
use borrow.Author.Tests.{eqb-true, eq-eqb, ltb-false, le-ltb}
use Rattle.pec.specs.Pec.{pec}
use Rattle.counts.specs.declared.LineNumber.{LineNumber}
use Rattle.counts.specs.Counts.{line_number}
use Rattle.line.specs.declared.Line.{Line}
use Rattle.line.specs.declared.LineRefusal.{LineRefusal}
use Rattle.line.specs.Digits.{digit_val, all_digits, values_of}
use Rattle.line.specs.Reading.{LineReading, bad_pairs, length_right, crc_right, form_right, line_of, read_values, read_digits, read_line}
use Rattle.std.specs.Prelude.{Ok, Err}
use Rattle.line.specs.LineForm.{Spells, Row, LineForm}
use Rattle.promise.proofs.Basics.{split}
use Rattle.line.proofs.LineParts.{values_length}
use Rattle.line.proofs.Spelling.{spells_values, spells_digits, spells-length, values_spelled}
use Rattle.line.proofs.Rows.{row_ok, row_count, ok_row}
use Rattle.line.proofs.Order.{layout-length, layout_last, layout_covered, Layout, layout_of}

-- ---- the tests where the form is met

module _ {n : ℕ} {v : List ℕ} (f : LineForm n v) where
  -- the code of the form
  abbrev code : ℕ
  code = pec (0xC0 ∷ f.command ∷ f.content)

  pub form-length : length v ≡ 5 + length f.content
  form-length = ap length f.bytes ∙ layout-length f.tag (3 + length f.content) 0xC0 f.command f.content code

  length_right_lem : length_right v ≡ true
  unfolding length_right
  length_right_lem = rw form-length (rw f.bytes (eq-eqb (3 + length f.content + 2) (5 + length f.content) (omega arith)))

  crc_right_lem : crc_right pec v ≡ true
  unfolding crc_right
  crc_right_lem = rw f.bytes (rw (layout_last, layout_covered) (eq-eqb code code refl))

  form_right_lem : form_right (line_number n) v ≡ true
  unfolding form_right
  form_right_lem =
      let e : 5 + length f.content - 5 ≡ length f.content = omega arith in
      rw (form-length, e) (rw f.bytes (row_ok f.row))

  -- 12 digits or more, and 74 or fewer
  pairs_right : (d : ℕ) → d ≡ 2 * length v → bad_pairs d ≡ false
  unfolding bad_pairs
  pairs_right d p =
      let c = row_count f.row in
      rw (eq-eqb (d % 2) 0 (omega arith), le-ltb d 10 (omega (arith, form-length)), le-ltb 74 d (omega (arith, form-length)))

pub form_good : (n : LineNumber) (t v : List ℕ) → Spells t v → LineForm n.0 v → read_line n t ≡ Ok (line_of v)
unfolding read_line read_digits read_values
form_good n t v s f =
    rw (spells_digits s, pairs_right f (length t) (spells-length s), spells_values s, length_right_lem f, crc_right_lem f, form_right_lem f)

-- ---- the form where the tests pass

values_form : (n : ℕ) {v : List ℕ} → 1 ≤ n → Layout v → length_right v ≡ true → crc_right pec v ≡ true → form_right (line_number n) v ≡ true →
    LineForm n v
unfolding length_right crc_right form_right
values_form n {v} h o sized coded formed =
    let e = o.bytes in
    let content = o.content in
    let long : length v ≡ 5 + length content = ap length e ∙ layout-length o.tag o.size o.address o.command content o.crc in
    let count : length v - 5 ≡ length content = omega arith in
    let two : o.size + 2 ≡ length v = ap (λ (l : List ℕ). get_or l 1 0 + 2) (sym e) ∙ eqb-true (get_or v 1 0 + 2) (length v) sized in
    let right : o.size ≡ 3 + length content = omega arith in
    let ok : (o.address ≡ 0xC0) × Row n o.tag o.command (length content)
    = ok_row n o.command (length content) o.tag o.address h (rw e at (rw count at formed)) in
    let kept : o.crc ≡ pec (o.address ∷ o.command ∷ content)
    = eqb-true _ _ (rw (layout_last, layout_covered) at (rw e at coded)) in
    record { tag = o.tag; command = o.command; content = content; row = ok.1; bytes = e ∙ rw (right, kept, ok.0) }

-- a line that reads as good: its text spells its values, and they are what was read
pub record Formed (n : ℕ) (t : List ℕ) (l : Line) : Type 0 where
  pub spelled : Spells t (values_of digit_val t)
  pub form : LineForm n (values_of digit_val t)
  pub line : l ≡ line_of (values_of digit_val t)

refused : {P : Type 0} (r : LineRefusal) (l : Line) → Err r ≡ Ok l → P
refused r l e = let z : ◌≡◌ {A = ℕ} 0 1 = cc in absurd (let y : ⊥ = omega arith in y)

-- a test that a good line has passed
pub must : (test : Bool) (x : LineReading) (r : LineRefusal) (l : Line) → cond test x (Err r) ≡ Ok l → (test ≡ true) × (x ≡ Ok l)
must true x r l e = (refl, e)
must false x r l e = refused r l e

pub must_not : (test : Bool) (x : LineReading) (r : LineRefusal) (l : Line) → cond test (Err r) x ≡ Ok l → (test ≡ false) × (x ≡ Ok l)
must_not true x r l e = refused r l e
must_not false x r l e = (refl, e)

-- a count of digits that a line has
pub pairs_of : (d : ℕ) → bad_pairs d ≡ false → (d % 2 ≡ 0) × (10 ≤ d)
unfolding bad_pairs
pairs_of d e =
    split (eqb (d % 2) 0)
    (λ f. split (ltb d 10) (λ g. absurd (true≢false (simp (f, g) at e))) (λ g. (eqb-true (d % 2) 0 f, ltb-false d 10 g)))
    (λ f. absurd (true≢false (simp f at e)))

pub good_form : (n : LineNumber) (t : List ℕ) (l : Line) → 1 ≤ n.0 → read_line n t ≡ Ok l → Formed n.0 t l
unfolding read_line read_digits read_values
good_form n t l h e =
    let v = values_of digit_val t in
    let p1 = must (all_digits digit_val t) (read_digits digit_val pec n t) _ l e in
    let p2 = must_not (bad_pairs (length t)) (read_values pec n v) _ l p1.1 in
    let p3 = must (length_right v) _ _ l p2.1 in
    let p4 = must (crc_right pec v) _ _ l p3.1 in
    let p5 = must (form_right n v) (Ok (line_of v)) _ l p4.1 in
    let q = pairs_of (length t) p2.0 in
    record {
      spelled = values_spelled t p1.0 q.0;
      form = values_form n.0 h (layout_of v (omega (arith, q.1, values_length digit_val t))) p3.0 p4.0 p5.0;
      line = cc p5.1;
    }
