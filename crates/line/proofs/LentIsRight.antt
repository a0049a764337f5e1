-- By tables that keep their rules, reading at a place is the reading of the line that starts there. Assumes nothing.
use Prim.Native.Nat.{ℕ, suc, ◌+◌, ◌-◌, ◌≤◌, ◌<◌}
use mathlib.Core.Bool.{Bool, true, false, cond, false≢true}
use mathlib.Core.List.{List, [], ◌∷◌}
use mathlib.Core.Path.{◌≡◌, refl, sym, ap, ◌∙◌}
use native.Mathlib.Omega.{arith}
use lib.ListN.{length, get_or, take, drop, drop_of_length-le}
use lib.Seq.{drop-drop, length-take-le}
use lib.Dec.{eqb, ltb, leb, lit<}
use borrow.Author.Tests.{eqb-true, ltb-true, ltb-false, lt-leb, lt-ltb, le-ltb}
use Rattle.pec.specs.Pec.{pec}
use Rattle.pec.specs.Lent.{IsTable, run_with}
use Rattle.pec.proofs.Laws.{run_right}
use Rattle.pec.proofs.Entries.{follows, entry_follows}
use Rattle.counts.specs.declared.LineNumber.{LineNumber}
use Rattle.cuts.specs.Lines.{cr_lf, lines_of, line_skip}
use Rattle.line.specs.Digits.{digit_val, is_digit, all_digits, digit_run, values_of, digit_by, IsDigits}
use Rattle.line.specs.Reading.{NextLine, covered_of, crc_right, read_values, read_digits, read_line, next_by, next_of, next_line}
use Rattle.line.specs.Lent.{ending_of, run_at, by_ending, lent_next}
use Rattle.std.specs.Prelude.{Option, Some, None, Ok}
use Rattle.promise.proofs.Basics.{split}
use Rattle.line.proofs.LineParts.{run-le, run_digits, values-lt, slice_get, slice_past}
use Rattle.cuts.proofs.FirstLine.{line_len, crlf_lf, lines_at}

-- ---- the table of digits: one test over its entries, and past them every byte is no digit
neither : (a : Bool) → cond a false false ≡ false
neither true = refl
neither false = refl

past_digits : (b : ℕ) → 256 ≤ b → digit_val b ≡ 16
unfolding digit_val
past_digits b h = simp (high 57 (omega arith), high 70 (omega arith), high 102 (omega arith), neither)
  where
    high : (hi : ℕ) → hi < b → leb b hi ≡ false
    high hi k = lt-leb b hi k

pub keeps : {digits : List ℕ} → length digits ≡ 256 → follows digit_val 0 digits ≡ true → IsDigits digits
unfolding digit_by
keeps {digits} size e = record { size = size; entry = entry }
  where
    entry : (b : ℕ) → digit_by digits b ≡ digit_val b
    entry b =
        split (ltb b 256) (λ h. rw h (entry_follows digit_val digits e b (omega (arith, ltb-true b 256 h))))
        (λ h. rw h (sym (past_digits b (ltb-false b 256 h))))

-- ---- LF and CR are no digits
not_ten : (b : ℕ) → is_digit digit_val b ≡ true → eqb b 10 ≡ false
unfolding digit_val
not_ten b e = split (eqb b 10) (λ h. absurd (false≢true (rw (eqb-true b 10 h) at e))) (λ h. h)

not_cr : (b d : ℕ) → is_digit digit_val b ≡ true → cr_lf b d ≡ false
unfolding digit_val
not_cr b d e = split (eqb b 13) (λ h. absurd (false≢true (rw (eqb-true b 13 h) at e))) (λ h. simp h)

-- the run of digits that a text starts with
abbrev run : List ℕ → ℕ
run t = digit_run digit_val t

-- the LF of a CR LF
lf_next : (b : ℕ) (s : List ℕ) → cr_lf b (get_or s 0 0) ≡ true → line_skip s ≡ 1
unfolding line_skip
lf_next b [] k = absurd (false≢true (crlf_lf b 0 k))
lf_next b (d ∷ s) k = simp (crlf_lf b d k)

-- where the run ends the line, it is the line
ended : (t : List ℕ) (e next : ℕ) → ending_of e (drop (run t) t) ≡ Some next →
    (line_len t ≡ run t) × (e + line_skip t ≡ run t + next)
unfolding ending_of digit_run line_len line_skip
ended [] e next p = let q : e ≡ next = cc in (refl, omega arith)
ended (b ∷ s) e next p =
    split (is_digit digit_val b)
    (λ d. let r = ended s e next (simp d at p) in simp (d, not_ten b d, not_cr b (get_or s 0 0) d) (ap suc r.0, omega (arith, r.1)))
    (λ d. split (eqb b 10)
    (λ h. let z : Some (e + 1) ≡ Some next = simp (d, h) at p in let q : e + 1 ≡ next = cc in simp (d, h) (refl, omega arith))
    (λ h. split (cr_lf b (get_or s 0 0))
    (λ k. let z : Some (e + 2) ≡ Some next = simp (d, h, k) at p in let q : e + 2 ≡ next = cc in simp (d, h, k) (refl, omega (arith, lf_next b s k)))
    (λ k. let z : None ≡ Some next = simp (d, h, k) at p in let y : ◌≡◌ {A = ℕ} 0 1 = cc in absurd (let x : ⊥ = omega arith in x))))

-- where it does not, the line has a byte that is no digit, and the same run before it
unended : (t : List ℕ) (e : ℕ) → ending_of e (drop (run t) t) ≡ None →
    (all_digits digit_val (take (line_len t) t) ≡ false) × (run (take (line_len t) t) ≡ run t)
unfolding ending_of digit_run line_len all_digits
unended [] e p = let y : ◌≡◌ {A = ℕ} 0 1 = cc in absurd (let x : ⊥ = omega arith in x)
unended (b ∷ s) e p =
    split (is_digit digit_val b)
    (λ d. let r = unended s e (simp d at p) in simp (not_ten b d, not_cr b (get_or s 0 0) d) (simp d (r.0, ap suc r.1)))
    (λ d. split (eqb b 10)
    (λ h. let z : Some (e + 1) ≡ None = simp (d, h) at p in let y : ◌≡◌ {A = ℕ} 0 1 = cc in absurd (let x : ⊥ = omega arith in x))
    (λ h. split (cr_lf b (get_or s 0 0))
    (λ k. let z : Some (e + 2) ≡ None = simp (d, h, k) at p in let y : ◌≡◌ {A = ℕ} 0 1 = cc in absurd (let x : ⊥ = omega arith in x))
    (λ k. simp (h, k) (simp d (refl, refl)))))

-- ---- reading by lent tables, where the run of digits ends at e
pub lent_here : (digits table : List ℕ) (n : LineNumber) (at : ℕ) (s : List ℕ) → at < length s → (e : ℕ) →
    e ≡ at + run_at digits table n at s → (x : Option ℕ) → ending_of e (drop e s) ≡ x →
    lent_next digits table n at s ≡ by_ending digits table n (take (e - at) (drop at s)) x
unfolding lent_next
lent_here digits table n at s h e p x q =
    let d : e - at ≡ run_at digits table n at s = omega arith in
    rw (lt-ltb at (length s) h, d, ← p, q)

pub lent_past : (digits table : List ℕ) (n : LineNumber) (at : ℕ) (s : List ℕ) → length s ≤ at → lent_next digits table n at s ≡ Ok None
unfolding lent_next
lent_past digits table n at s h = rw (le-ltb at (length s) h)

module _ {digits table : List ℕ} (digitRule : IsDigits digits) (rule : IsTable table) where
  digit_right : digit_by digits ≡ digit_val
  digit_right i b = digitRule.entry b i

  covered-lt : (t : List ℕ) (i : ℕ) → get_or (covered_of (values_of digit_val t)) i 0 < 256
  covered-lt t i =
      let v = values_of digit_val t in
      let e = length v - 1 in
      split (ltb (2 + i) e) (λ h. rw (slice_get v 2 e i (ltb-true _ _ h)) (values-lt digit_val t (2 + i)))
      (λ h. rw (slice_past v 2 e i (ltb-false _ _ h) (omega arith)) (lit< tt))

  pub read_right : (n : LineNumber) (t : List ℕ) → read_digits (digit_by digits) (run_with table 0) n t ≡ read_digits digit_val pec n t
  unfolding read_digits read_values crc_right
  read_right n t = rw digit_right (rw (run_right rule 0 (covered_of (values_of digit_val t)) (lit< tt) (covered-lt t)))

  module _ (n : LineNumber) (at : ℕ) where
    -- by what follows the run of digits
    here : (t : List ℕ) (x : Option ℕ) → ending_of (at + run t) (drop (run t) t) ≡ x →
        by_ending digits table n (take (run t) t) x ≡ next_by (read_line n (take (line_len t) t)) (at + line_skip t)
    unfolding by_ending read_line next_by
    here t None p =
        let q = unended t (at + run t) p in
        rw q.0 (cc (q.1, length-take-le (run t) t (run-le digit_val t)))
    here t (Some next) p =
        let q = ended t (at + run t) next p in
        let k : next ≡ at + line_skip t = omega (arith, q.1) in
        rw (k, q.0, run_digits digit_val t, read_right n (take (run t) t))

    lent_right : (s : List ℕ) → lent_next digits table n at s ≡ next_line n at s
    unfolding lent_next next_of lines_of
    lent_right s =
        split (ltb at (length s))
        (λ h. rw (h, digit_right, lines_at s at (ltb-true at (length s) h), ← drop-drop (run (drop at s)) at s) (here (drop at s) _ refl))
        (λ h. rw (h, drop_of_length-le s (ltb-false at (length s) h)))

    -- what a call by these tables read
    pub read_is : (s : List ℕ) {r : NextLine} → r ≡ lent_next digits table n at s → r ≡ next_line n at s
    read_is s p = p ∙ lent_right s
