-- A write line that is taken by the places of its digits is what reading gives there. Assumes nothing.
use Prim.Native.Nat.{ℕ, zero, suc, ◌+◌, ◌-◌, ◌/◌, ◌≤◌, ◌<◌}
use mathlib.Core.Bool.{true, false}
use mathlib.Core.List.{List, [], ◌∷◌}
use mathlib.Core.Path.{◌≡◌, ap, ◌∙◌}
use native.Mathlib.Omega.{arith}
use lib.ListN.{length, get_or, take, drop, length-drop, drop_of_length-le}
use lib.Seq.{get_or-drop}
use borrow.Author.Tests.{eqb-true, eq-eqb, lt-leb}
use Rattle.pec.specs.Lent.{run_with}
use Rattle.counts.specs.declared.LineNumber.{LineNumber}
use Rattle.line.specs.Digits.{is_digit, all_digits, digit_run, digit_by, values_of}
use Rattle.line.specs.Reading.{bad_pairs, body_ok, form_ok, length_right, crc_right, form_right, line_of, read_values, read_digits, next_by}
use Rattle.line.specs.Lent.{ending_of, read_by, by_ending, lent_next}
use Rattle.line.specs.declared.Line.{Line}
use Rattle.line.specs.Private.Quick.{headed, ends_run}
use mathlib.Core.Logic.{◌⊎◌, inl, inr}
use Rattle.std.specs.Prelude.{Some, None, Ok}
use Rattle.promise.proofs.Basics.{split, and_true, drop_at1}
use Rattle.line.proofs.LineParts.{values_length}
use Rattle.line.proofs.LentIsRight.{lent_here}

-- ---- the run of digits ends where it is said to

run_to : (digit : ℕ → ℕ) (m : ℕ) (t : List ℕ) → all_digits digit (take m t) ≡ true → m < length t → is_digit digit (get_or t m 0) ≡ false →
    digit_run digit t ≡ m
unfolding digit_run all_digits
run_to digit m [] p h q = absurd (let z : ⊥ = omega arith in z)
run_to digit zero (b ∷ t) p h q = simp q
run_to digit (suc m) (b ∷ t) p h q =
    let r = and_true (is_digit digit b) (all_digits digit (take m t)) p in
    simp r.0 (ap suc (run_to digit m t r.1 (omega arith) q))

other_next : {next : ℕ} → None ≡ Some next → ⊥
other_next p = let y : ◌≡◌ {A = ℕ} 0 1 = cc in omega arith

ends : (digit : ℕ → ℕ) (at e : ℕ) (s : List ℕ) (next : ℕ) → at ≤ e → e < length s → ends_run digit at e s ≡ Some next →
    (e ≡ at + digit_run digit (drop at s)) × (ending_of e (drop e s) ≡ Some next)
unfolding ends_run
ends digit at e s next h k p =
    split (all_digits digit (take (e - at) (drop at s)))
    (λ d. split (is_digit digit (get_or s e 0)) (λ q. absurd (other_next (simp (d, q) at p)))
    (λ q.
    let place : at + (e - at) ≡ e = omega arith in
    let stop : is_digit digit (get_or (drop at s) (e - at) 0) ≡ false = rw (get_or-drop at s (e - at) 0, place) q in
    let run = run_to digit (e - at) (drop at s) d (omega (arith, length-drop at s)) stop in
    (omega (arith, run), simp (d, q) at p)))
    (λ d. absurd (other_next (simp d at p)))

pub usual_here : (digits table : List ℕ) (n : LineNumber) (at e : ℕ) (s : List ℕ) (next : ℕ) → at ≤ e → e < length s →
    ends_run (digit_by digits) at e s ≡ Some next →
    lent_next digits table n at s ≡ next_by (read_by digits table n (take (e - at) (drop at s))) next
unfolding by_ending
usual_here digits table n at e s next h k p =
    let r = ends (digit_by digits) at e s next h k p in
    lent_here digits table n at s (omega arith) e r.0 (Some next) r.1

-- ---- the values of a list, one by one

values_from : List ℕ → ℕ → ℕ → List ℕ
values_from v i zero = []
values_from v i (suc k) = get_or v i 0 ∷ values_from v (i + 1) k

all_values : (v : List ℕ) (i k : ℕ) → length v ≡ i + k → drop i v ≡ values_from v i k
unfolding values_from
all_values v i zero h = drop_of_length-le v {i = i} (omega arith)
all_values v i (suc k) h = rw (drop_at1 v i (omega arith)) (ap (λ (l : List ℕ). get_or v i 0 ∷ l) (all_values v (i + 1) k (omega arith)))

-- with their first three known
three : (v more : List ℕ) (size : ℕ) → (get_or v 0 0 ≡ 0) × (get_or v 1 0 ≡ size) × (get_or v 2 0 ≡ 0xC0) →
    get_or v 0 0 ∷ get_or v 1 0 ∷ get_or v 2 0 ∷ more ≡ 0 ∷ size ∷ 0xC0 ∷ more
three v more size h = cc (h.0, h.1, h.2)

module _ (v : List ℕ) (size : ℕ) (h : headed v size ≡ true) where
  headed_is : (get_or v 0 0 ≡ 0) × (get_or v 1 0 ≡ size) × (get_or v 2 0 ≡ 0xC0)
  unfolding headed
  headed_is =
      let a = and_true _ _ h in
      let b = and_true _ _ a.1 in
      (eqb-true _ _ a.0, eqb-true _ _ b.0, eqb-true _ _ b.1)

-- ---- a write line with its two or four data bytes

module _ (table : List ℕ) (n : LineNumber) (late : 4 < n.0) where
  -- the line of some values is taken with so many data bytes, and its CRC is the code of its address, its command and these
  Coded : List ℕ → ℕ → Type 0
  Coded w count =
      (body_ok (line_of w).command count ≡ true)
      × ((line_of w).crc ≡ run_with table (run_with table 0 (0xC0 ∷ (line_of w).command ∷ [])) (take count (line_of w).bytes))

  two_taken : (w : List ℕ) (a b c r : ℕ) → w ≡ 0 ∷ 5 ∷ 0xC0 ∷ a ∷ b ∷ c ∷ r ∷ [] → Coded w 2 → read_values (run_with table 0) n w ≡ Ok (line_of w)
  unfolding read_values length_right crc_right form_right form_ok line_of run_with Coded
  two_taken w a b c r e h =
      let k = rw e at h in
      rw e (rw (lt-leb n.0 4 late, k.0, eq-eqb _ _ k.1))

  four_taken : (w : List ℕ) (a b c d f r : ℕ) → w ≡ 0 ∷ 7 ∷ 0xC0 ∷ a ∷ b ∷ c ∷ d ∷ f ∷ r ∷ [] → Coded w 4 →
      read_values (run_with table 0) n w ≡ Ok (line_of w)
  unfolding read_values length_right crc_right form_right form_ok line_of run_with Coded
  four_taken w a b c d f r e h =
      let k = rw e at h in
      rw e (rw (lt-leb n.0 4 late, k.0, eq-eqb _ _ k.1))

  module _ (digits t : List ℕ) where
    abbrev v : List ℕ
    v = values_of (digit_by digits) t

    pub line_taken : (size : ℕ) → (size ≡ 14) ⊎ (size ≡ 18) → length t ≡ size → (l : Line) → l ≡ line_of v →
        headed v (size / 2 - 2) ≡ true → body_ok l.command (size / 2 - 5) ≡ true → (head : ℕ) →
        head ≡ run_with table 0 (0xC0 ∷ l.command ∷ []) → l.crc ≡ run_with table head (take (size / 2 - 5) l.bytes) →
        read_by digits table n t ≡ Ok l
    unfolding read_digits bad_pairs Coded values_from
    line_taken size which long l is h body head start code =
        let a = headed_is v (size / 2 - 2) h in
        let first = rw is at start in
        let coded : Coded v (size / 2 - 5) = (rw is at body, rw first at (rw is at code)) in
        let many = values_length (digit_by digits) t in
        elim which [
          | inl e ↦
              let b = rw e at a in
              let all : v ≡ 0 ∷ 5 ∷ 0xC0 ∷ get_or v 3 0 ∷ get_or v 4 0 ∷ get_or v 5 0 ∷ get_or v 6 0 ∷ [] =
              all_values v 0 7 (omega arith) ∙ three v (get_or v 3 0 ∷ get_or v 4 0 ∷ get_or v 5 0 ∷ get_or v 6 0 ∷ []) 5 b in
              rw (is, long, e) (two_taken v _ _ _ _ all (rw e at coded))
          | inr e ↦
              let b = rw e at a in
              let all : v ≡ 0 ∷ 7 ∷ 0xC0 ∷ get_or v 3 0 ∷ get_or v 4 0 ∷ get_or v 5 0 ∷ get_or v 6 0 ∷ get_or v 7 0 ∷ get_or v 8 0 ∷ [] =
              all_values v 0 9 (omega arith) ∙ three v (get_or v 3 0 ∷ get_or v 4 0 ∷ get_or v 5 0 ∷ get_or v 6 0 ∷ get_or v 7 0 ∷ get_or v 8 0 ∷ []) 7 b in
              rw (is, long, e) (four_taken v _ _ _ _ _ _ all (rw e at coded))
        ]
