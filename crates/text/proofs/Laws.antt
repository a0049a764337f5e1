-- Laws of digits, of leading zeros, and of text at a place of a buffer. Assumes nothing.
use mathlib.Core.Path.{◌≡◌, refl, sym, ap, ◌∙◌}
use mathlib.Core.List.{List, [], ◌∷◌, ◌++◌, append_assoc, append-nil}
use Prim.Native.Nat.{ℕ, zero, suc, ◌+◌, ◌-◌, ◌/◌, ◌%◌, ◌≤◌, ◌<◌}
use native.Mathlib.Omega.{arith}
use lib.Dec.{ltb, leb}
use lib.ListN.{length, set, take, drop, take-append-drop, length-append, length-drop, drop_of_length-le}
use lib.Seq.{take-length, take_at, drop_at, drop-drop, length-take-le, drop-append-le}
use borrow.Author.Tests.{le-leb, lt-leb, ltb-true, ltb-false, leb-true, leb-false}
use borrow.Rule.Slice.PartMut.{put_mid}
use Rattle.std.specs.Prelude.{◌==◌, true, false, not, min, Option, nat_lt}
use Rattle.std.specs.List.{position_or_len, position}
use Rattle.std.specs.Option.{unwrap_or}
use Rattle.std.proofs.lemmas.List.{drop-set}
use Rattle.promise.proofs.Basics.{split}
use Rattle.text.specs.declared.Page.{Page}
use Rattle.text.specs.Page.{PutsOn}
use Rattle.text.specs.Private.Pieces.{PutsIfRoom}
use Rattle.text.specs.Text.{glyph, digits, hex, zeros_before, decimal, fits, put_at, behind, Puts}

-- ---- digits

pub digits-length : (base places n : ℕ) → length (digits base places n) ≡ places
unfolding digits
digits-length base zero n = refl
digits-length base (suc places) n = omega (arith, length-append (digits base places (n / base)) (glyph (n % base) ∷ []), digits-length base places (n / base))

-- one digit more, from the end
pub digits_on : (base i n : ℕ) → 0 < i → digits base i n ≡ digits base (i - 1) (n / base) ++ (glyph (n % base) ∷ [])
unfolding digits
digits_on base zero n h = absurd (let no : ⊥ = omega arith in no)
digits_on base (suc i) n h = let e : suc i - 1 ≡ i = omega arith in rw e

-- the last digits of more digits
pub digits_last : (base more width n : ℕ) → drop more (digits base (more + width) n) ≡ digits base width n
unfolding digits
digits_last base more zero n =
    let e : more + zero ≡ more = omega arith in
    rw e (drop_of_length-le (digits base more n) {i = more} (omega (arith, digits-length base more n)))
digits_last base more (suc width) n =
    let e : more + suc width ≡ suc (more + width) = omega arith in
    rw e (drop-append-le more (digits base (more + width) (n / base)) (glyph (n % base) ∷ []) (omega (
      arith,
      digits-length base (more + width)
          (n / base),
    )) ∙ rw (digits_last base more width (n / base)))

-- eight hex digits, cut as a slice to the last
pub hex_cut : (width n : ℕ) {s : List ℕ} → width ≤ 8 → s ≡ digits 16 8 n → take (8 - (8 - width)) (drop (8 - width) s) ≡ hex width n
hex_cut width n {s} h e =
    let eight : 8 - width + width ≡ 8 = omega arith in
    let length-s : length s ≡ 8 = ap length e ∙ digits-length 16 8 n in
    let left : 8 - (8 - width) ≡ length (drop (8 - width) s) = omega (arith, length-drop (8 - width) s) in
    rw (left, take-length) (rw e (rw eight at (digits_last 16 (8 - width) width n)))

-- a turn of the loop that spells from the end: the last digit of the rest is stored before what stands from i on
pub digits_turn : (base i rest : ℕ) (out : List ℕ) → 0 < i → i ≤ length out →
    digits base i rest ++ drop i out ≡ digits base (i - 1) (rest / base) ++ drop (i - 1) (set out (i - 1) (glyph (rest % base)))
digits_turn base i rest out h k =
    let e : i - 1 + 1 ≡ i = omega arith in
    let inside : i - 1 < length out = omega arith in
    rw (digits_on base i rest h, drop-set out (i - 1) (glyph (rest % base)) inside, append_assoc, e)

-- ---- leading zeros

-- those before the first digit that is none, and no more than all digits but the last
pub zeros_least : (s : List ℕ) → 0 < length s → zeros_before s ≡ min (position_or_len (λ d. not (d == 48)) s) (length s - 1)
unfolding zeros_before
zeros_least [] h = absurd (let no : ⊥ = omega arith in no)
zeros_least (d ∷ []) h = omega arith
zeros_least (d ∷ e ∷ ds) h =
    split (d == 48) (λ t. simp t (omega (arith, zeros_least (e ∷ ds) (omega arith)))) (λ t. simp t (omega arith))

-- and so where the first digit stands that is none, or the last digit
pub zeros_found : (s : List ℕ) → length s ≡ 20 → unwrap_or (position (λ d. not (d == 48)) s) 19 ≡ zeros_before s
zeros_found s h =
    let least = zeros_least s (omega arith) in
    let z = position_or_len (λ d. not (d == 48)) s in
    split (nat_lt z (length s))
    (λ t. let k : z < length s = ltb-true z (length s) t in rw t (omega arith))
    (λ t. let k : length s ≤ z = ltb-false z (length s) t in rw t (omega arith))

-- the twenty digits, cut as a slice behind their zeros
pub decimal_cut : (n : ℕ) {s : List ℕ} → s ≡ digits 10 20 n → take (20 - zeros_before s) (drop (zeros_before s) s) ≡ decimal n
unfolding decimal
decimal_cut n {s} e =
    let twenty : length s ≡ 20 = ap length e ∙ digits-length 10 20 n in
    let z = zeros_before s in
    let left : 20 - z ≡ length (drop z s) = omega (arith, length-drop z s) in
    rw (left, take-length) (ap (λ (l : List ℕ). drop (zeros_before l) l) e)

-- and so cut where the first digit stands that is no zero
pub decimal_found : (n : ℕ) {s : List ℕ} {r : Option ℕ} → s ≡ digits 10 20 n → r ≡ position (λ d. not (d == 48)) s →
    take (20 - unwrap_or r 19) (drop (unwrap_or r 19) s) ≡ decimal n
decimal_found n {s} e f = rw (f, zeros_found s (ap length e ∙ digits-length 10 20 n)) (decimal_cut n e)

-- ---- text at a place

module _ (out : List ℕ) (at : ℕ) (bs : List ℕ) where
  pub put_fits : at + length bs ≤ length out → put_at out at bs ≡ take at out ++ bs ++ drop (at + length bs) out
  unfolding put_at fits
  put_fits h = rw (le-leb (at + length bs) (length out) h)

  pub behind_fits : at + length bs ≤ length out → behind out at bs ≡ at + length bs
  unfolding behind fits
  behind_fits h = rw (le-leb (at + length bs) (length out) h)

  pub put_not : length out < at + length bs → put_at out at bs ≡ out
  unfolding put_at fits
  put_not h = rw (lt-leb (at + length bs) (length out) h)

  pub behind_not : length out < at + length bs → behind out at bs ≡ at
  unfolding behind fits
  behind_not h = rw (lt-leb (at + length bs) (length out) h)

-- a part of the buffer written over is a text put there
pub puts_part : (out : List ℕ) (at count : ℕ) (bs : List ℕ) {ys : List ℕ} → true ≡ leb (at + count) (length out) →
    length bs ≡ count → ys ≡ bs → Puts out at bs (put_mid at (at + count - at) out ys) (at + count)
puts_part out at count bs h e k =
    let enough : at + count ≤ length out = leb-true (at + count) (length out) (sym h) in
    let room : at + length bs ≤ length out = omega arith in
    let long : at + count - at ≡ length bs = omega arith in
    record {
      place = rw (behind_fits out at bs room, e);
      content = rw (put_fits out at bs room, k, long, drop-drop (length bs) at out, append_assoc (take at out) bs _);
    }

pub part-length : (out : List ℕ) (at count : ℕ) → true ≡ leb (at + count) (length out) →
    length (take (at + count - at) (drop at out)) ≡ count
part-length out at count h =
    let enough : at + count ≤ length out = leb-true (at + count) (length out) (sym h) in
    let long : at + count - at ≡ count = omega arith in
    rw long (length-take-le count (drop at out) (omega (arith, length-drop at out)))

-- where it does not fit nothing is put
pub puts_not : (out : List ℕ) (at count : ℕ) (bs : List ℕ) → false ≡ leb (at + count) (length out) → length bs ≡ count →
    Puts out at bs out at
puts_not out at count bs h e =
    let few : length out < at + length bs = omega (arith, leb-false (at + count) (length out) (sym h)) in
    record { place = sym (behind_not out at bs few); content = sym (put_not out at bs few) }

-- one text behind the other is both as one
puts_then : {before mid after xs ys : List ℕ} {at next behindBoth : ℕ} → at + length (xs ++ ys) ≤ length before → Puts before at xs mid next →
    Puts mid next ys after behindBoth → Puts before at (xs ++ ys) after behindBoth
puts_then {before} {mid} {after} {xs} {ys} {at} {next} {behindBoth} room p q =
    let both : length (xs ++ ys) ≡ length xs + length ys = length-append xs ys in
    let first : at + length xs ≤ length before = omega arith in
    let here : next ≡ at + length xs = p.place ∙ behind_fits before at xs first in
    let is : mid ≡ take at before ++ xs ++ drop (at + length xs) before = p.content ∙ put_fits before at xs first in
    let head : length (take at before ++ xs) ≡ at + length xs = omega (arith, length-append (take at before) xs, length-take-le at before (omega arith)) in
    let whole : length mid ≡ length before =
    ap length is ∙ omega (arith, head, length-append (take at before ++ xs) (drop (at + length xs) before), length-drop (at + length xs) before) in
    let second : next + length ys ≤ length mid = omega arith in
    let front : take next mid ≡ take at before ++ xs = rw (is, here) (take_at (take at before ++ xs) (drop (at + length xs) before) (at + length xs) head) in
    let back : drop (next + length ys) mid ≡ drop (at + length xs + length ys) before =
    rw (is, here)
    (sym (drop-drop (length ys) (at + length xs) (take at before ++ xs ++ drop (at + length xs) before))
    ∙ ap (drop (length ys)) (drop_at (take at before ++ xs) (drop (at + length xs) before) (at + length xs) head)
    ∙ drop-drop (length ys) (at + length xs) before) in
    let sum : at + (length xs + length ys) ≡ at + length xs + length ys = omega arith in
    record {
      place = q.place ∙ behind_fits mid next ys second ∙ rw (behind_fits before at (xs ++ ys) (omega arith), both) (omega arith);
      content = q.content ∙ put_fits mid next ys second ∙ rw (put_fits before at (xs ++ ys) (omega arith), both, front, back, sum, append_assoc (take at before) xs ys);
    }

-- a run of texts, one behind the other: the room is shown once, for the whole
pub record Run (before : List ℕ) (at : ℕ) (text after : List ℕ) (next : ℕ) : Type 0 where
  pub fitting : at + length text ≤ length before → Puts before at text after next

pub run_one : {before bs after : List ℕ} {at next : ℕ} → Puts before at bs after next → Run before at bs after next
run_one p = record { fitting = λ room. p }

pub run_more : {before mid after xs ys : List ℕ} {at next behindBoth : ℕ} → Run before at xs mid next → Puts mid next ys after behindBoth →
    Run before at (xs ++ ys) after behindBoth
run_more {xs = xs} {ys = ys} r q = record { fitting = λ room. puts_then room (r.fitting (omega (arith, length-append xs ys))) q }

-- no text changes nothing
pub puts_none : (before : List ℕ) (at : ℕ) → Puts before at [] before at
puts_none before at =
    let none : at + length {A = ℕ} [] ≡ at = omega arith in
    split (leb (at + length {A = ℕ} []) (length before))
    (λ t.
    let room : at + length {A = ℕ} [] ≤ length before = leb-true (at + length {A = ℕ} []) (length before) t in
    record {
      place = sym (behind_fits before at [] room ∙ none);
      content = sym (put_fits before at [] room ∙ rw (none, append-nil) (take-append-drop at before));
    })
    (λ t.
    let past : length before < at + length {A = ℕ} [] = leb-false (at + length {A = ℕ} []) (length before) t in
    record { place = sym (behind_not before at [] past); content = sym (put_not before at [] past) })

-- the place behind a text that fits
pub puts_place : {before bs after : List ℕ} {at next : ℕ} → Puts before at bs after next → at + length bs ≤ length before → next ≡ at + length bs
puts_place {before} {bs} {after} {at} p room = p.place ∙ behind_fits before at bs room

-- a buffer keeps its length
pub puts-length : {before bs after : List ℕ} {at next : ℕ} → Puts before at bs after next → length after ≡ length before
puts-length {before} {bs} {after} {at} p =
    split (leb (at + length bs) (length before))
    (λ t.
    let room : at + length bs ≤ length before = leb-true (at + length bs) (length before) t in
    ap length (p.content ∙ put_fits before at bs room)
    ∙ omega (
      arith,
      length-append (take at before ++ bs) (drop (at + length bs) before),
      length-append (take at before) bs,
      length-take-le at before
          (omega arith),
      length-drop (at + length bs) before,
    ))
    (λ t. ap length (p.content ∙ put_not before at bs (leb-false (at + length bs) (length before) t)))

-- ---- how long numbers are

pub decimal-length : (n : ℕ) → length (decimal n) ≤ 20
unfolding decimal
decimal-length n = omega (arith, length-drop (zeros_before (digits 10 20 n)) (digits 10 20 n), digits-length 10 20 n)

-- the place stays within the buffer
pub puts_within : {before bs after : List ℕ} {at next : ℕ} → Puts before at bs after next → at ≤ length before → next ≤ length before
puts_within {before} {bs} {after} {at} {next} p h =
    split (leb (at + length bs) (length before))
    (λ t.
    let room : at + length bs ≤ length before = leb-true (at + length bs) (length before) t in
    omega (arith, p.place, behind_fits before at bs room))
    (λ t. omega (arith, p.place, behind_not before at bs (leb-false (at + length bs) (length before) t)))

-- what is put from within the buffer ends within it
pub puts_inside : {before bs after : List ℕ} {at next : ℕ} → Puts before at bs after next → at ≤ length before → next ≤ length after
puts_inside p h = omega (arith, puts_within p h, puts-length p)

-- and is as long as it says
pub puts_taken : {before bs after : List ℕ} {at next : ℕ} → Puts before at bs after next → at ≤ length before → next ≡ length (take next after)
puts_taken {after = after} {next = next} p h = sym (length-take-le next after (puts_inside p h))

-- ---- a text put on a page piece by piece: the room is shown once, for the whole

pub one : {before after : Page} {bs : List ℕ} → PutsOn before bs after → PutsIfRoom before bs after
one p = record { same = p.same; fitting = λ room. p.puts }

pub both : {before mid after : Page} {xs ys : List ℕ} → PutsIfRoom before xs mid → PutsIfRoom mid ys after →
    PutsIfRoom before (xs ++ ys) after
both {before} {mid} {after} {xs} {ys} p q = record {
  same = q.same ∙ p.same;
  fitting = λ room.
      let first = p.fitting (omega (arith, length-append xs ys)) in
      let place = puts_place first (omega (arith, length-append xs ys)) in
      puts_then room first (q.fitting (omega (arith, length-append xs ys, place, puts-length first)));
}

pub more : {before mid after : Page} {xs ys : List ℕ} → PutsIfRoom before xs mid → PutsOn mid ys after → PutsIfRoom before (xs ++ ys) after
more p q = both p (one q)

pub none : (page : Page) → PutsIfRoom page [] page
none page = one (record { same = refl; puts = puts_none page.room.now page.at })
