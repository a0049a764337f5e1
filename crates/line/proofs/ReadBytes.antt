-- The parts of a line that was taken are bytes, and it is a line that reads as good. Assumes nothing.
use Rattle.std.specs.Prelude.{Some, None, Ok, Err}
use mathlib.Core.List.{List, [], ◌∷◌}
use mathlib.Core.Path.{◌≡◌, sym, ap}
use Prim.Native.Nat.{ℕ, zero, suc, ◌+◌, ◌-◌, ◌<◌}
use native.Mathlib.Omega.{arith}
use lib.Dec.{ltb, lit<}
use lib.ListN.{length, get_or}
use borrow.Author.Tests.{ltb-true, ltb-false}
use Rattle.counts.specs.declared.LineNumber.{LineNumber}
use Rattle.line.specs.declared.Line.{Line}
use Rattle.line.specs.Digits.{digit_val, all_digits, values_of}
use Rattle.line.specs.Reading.{LineReading, NextLine, IsBytes, data_of, line_of, bad_pairs, length_right, crc_right, form_right, read_values, read_digits, read_line, next_by, next_of, next_line}
use Rattle.pec.specs.Pec.{pec}
use Rattle.promise.proofs.Basics.{split}
use Rattle.line.proofs.LineParts.{values-lt, slice_get, slice_past}
use Rattle.line.proofs.GoodExactly.{must, must_not}

module _ (t : List ℕ) where
  abbrev v : List ℕ
  v = values_of digit_val t

  data-lt : (i : ℕ) → get_or (data_of v) i 0 < 256
  data-lt i =
      split (ltb (4 + i) (length v - 1)) (λ h. rw (slice_get v 4 (length v - 1) i (ltb-true _ _ h)) (values-lt digit_val t (4 + i)))
      (λ h. rw (slice_past v 4 (length v - 1) i (ltb-false _ _ h) (omega arith)) (lit< tt))

  line_bytes : IsBytes (line_of v)
  unfolding line_of
  line_bytes = record { command = values-lt digit_val t 3; bytes = by }
    where
      by : (i : ℕ) → get_or (get_or (data_of v) 0 0 ∷ get_or (data_of v) 1 0 ∷ get_or (data_of v) 2 0 ∷ get_or (data_of v) 3 0 ∷ []) i 0 < 256
      by zero = data-lt 0
      by (suc zero) = data-lt 1
      by (suc (suc zero)) = data-lt 2
      by (suc (suc (suc zero))) = data-lt 3
      by (suc (suc (suc (suc i)))) = lit< tt

  good_bytes : (n : LineNumber) (l : Line) → read_line n t ≡ Ok l → IsBytes l
  unfolding read_line read_digits read_values
  good_bytes n l e =
      let p1 = must (all_digits digit_val t) (read_digits digit_val pec n t) _ l e in
      let p2 = must_not (bad_pairs (length t)) (read_values pec n v) _ l p1.1 in
      let p3 = must (length_right v) _ _ l p2.1 in
      let p4 = must (crc_right pec v) _ _ l p3.1 in
      let p5 = must (form_right n v) (Ok (line_of v)) _ l p4.1 in
      let is : l ≡ line_of v = cc p5.1 in
      rw is line_bytes

taken : NextLine → LineReading → Type 0
taken x r = (l : Line) (next : ℕ) → x ≡ Ok (Some (l, next)) → r ≡ Ok l

line_taken : NextLine → Line → Line
line_taken (Ok None) d = d
line_taken (Ok (Some (l, next))) d = l
line_taken (Err r) d = d

by_reading : (r : LineReading) (k : ℕ) → taken (next_by r k) r
unfolding next_by taken line_taken
by_reading (Ok m) k l next e = ap Ok (ap (λ (x : NextLine). line_taken x l) e)
by_reading (Err g) k l next e = let z : ◌≡◌ {A = ℕ} 0 1 = cc in absurd (let y : ⊥ = omega arith in y)

-- what was taken is a line that reads
pub took_read : (n : LineNumber) (k : ℕ) (ts : List (List ℕ)) (l : Line) (next : ℕ) → next_of n k ts ≡ Ok (Some (l, next)) → (t : List ℕ) × (read_line n t ≡ Ok l)
unfolding next_of taken
took_read n k [] l next e = let z : ◌≡◌ {A = ℕ} 0 1 = cc in absurd (let y : ⊥ = omega arith in y)
took_read n k (t ∷ ts) l next e = (t, by_reading (read_line n t) k l next e)

pub took_bytes : (n : LineNumber) (at : ℕ) (s : List ℕ) {l : Line} {next : ℕ} → Ok (Some (l, next)) ≡ next_line n at s → IsBytes l
took_bytes n at s {l} {next} e = let r = took_read n _ _ l next (sym e) in good_bytes r.0 n l r.1
