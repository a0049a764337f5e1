-- A request marked as a write line is that line on the wire; and the burn's bytes are put out exactly as often as the burn is, where
-- RESTORE_CFG is none of the other commands. Assumes nothing.
use mathlib.Core.Path.{◌≡◌, refl, sym, ap, ◌∙◌}
use mathlib.Core.Bool.{true, false, true≢false}
use mathlib.Core.List.{List, [], ◌∷◌}
use Prim.Native.Nat.{ℕ, ◌+◌, ◌-◌, ◌≤◌, ◌<◌}
use native.Mathlib.Omega.{arith}
use lib.Dec.{eqb}
use lib.ListN.{length, get_or, drop, length-drop}
use lib.Seq.{get_or-drop}
use borrow.Author.Tests.{eq-eqb, eqb-true, eqb-false}
use Rattle.cuts.specs.Lines.{lines_of}
use Rattle.line.specs.Digits.{digit_val, values_of}
use Rattle.line.specs.Reading.{line_of}
use Rattle.line.specs.LineForm.{LineForm}
use Rattle.promise.specs.Lists.{is_in}
use Rattle.promise.proofs.Basics.{split}
use Rattle.summary.specs.declared.Summary.{Summary}
use Rattle.image.specs.Meets.{BurnBytes}
use Rattle.bus.specs.declared.Request.{Request}
use Rattle.bus.specs.Bus.{eight, framed, write_of, read_of, reserved}
use Rattle.guide.specs.Plan.{Reply, other, file_line, Asked, Plan, requests}
use Rattle.guide.specs.Guide.{write_lines_of, guide_for}
use Rattle.guide.specs.Statements.{line_asked, is_burn_mark, burns_in, same_bytes, spellings, MarksTell, SpelledOnce}
use Rattle.guide.proofs.Through.{asked}
use Rattle.guide.proofs.Every.{Every, asks, ends, every_request, Other, point, word, identity, revision, set, command, load, guide_every}
use Rattle.guide.specs.Wire.{Wire, in_use, as_they_stand, RightAt}
use Rattle.guide.proofs.LineBytes.{in_use_lem, stands, burning, line_spelt, line_out_lem}
use Rattle.guide.proofs.FileFacts.{FileFacts, values_at}
use Rattle.guide.specs.Terms.{Terms}

-- ---- the burn's bytes, request by request

-- spelled as the burn exactly where it is marked as the burn
abbrev pub Agrees : Request → ℕ → Asked → Type 0
Agrees burn n q = same_bytes q.request.bytes burn.bytes ≡ is_burn_mark n q.mark

agree : (burn : Request) (n : ℕ) {most : ℕ} {p : Plan} → Every (Agrees burn n) most p → (rs : List Reply)
    → spellings burn (requests p rs) ≡ burns_in n (requests p rs)
unfolding requests spellings burns_in
agree burn n (asks e f) [] = rw e
agree burn n (asks e f) (r ∷ rs) = rw (e, agree burn n (f r) rs)
agree burn n ends rs = refl

pub same_self : (bs : List ℕ) → same_bytes bs bs ≡ true
unfolding same_bytes
same_self [] = refl
same_self (b ∷ bs) = rw (eq-eqb b b refl) (same_self bs)

not_burn : (restore : ℕ) → reserved restore ≡ false → eqb restore 0xE7 ≡ false
unfolding reserved is_in
not_burn restore e = split (eqb restore 0xE7) (λ f. absurd (true≢false (rw (eqb-true restore 0xE7 f) at e))) (λ f. f)

pub others_agree : (n : ℕ) (T : Terms) (file : Summary) → reserved T.restore ≡ false → (q : Request) → Other T file q
    → Agrees (burning T.address) n (asked other q)
unfolding same_bytes is_burn_mark eight write_of framed read_of
others_agree n T file e _ (point low high) = rw (eq-eqb T.address T.address refl)
others_agree n T file e _ word = rw (eq-eqb T.address T.address refl)
others_agree n T file e _ identity = rw (eq-eqb T.address T.address refl)
others_agree n T file e _ revision = rw (eq-eqb T.address T.address refl)
others_agree n T file e _ (set w) = rw (eq-eqb T.address T.address refl)
others_agree n T file e _ command = rw (eq-eqb T.address T.address refl)
others_agree n T file e _ (load N) = rw (eq-eqb T.address T.address refl, not_burn T.restore e)

-- ---- of a text

module _ (W : Wire) (T : Terms) (right : RightAt T.address W) (file : Summary) (text : List ℕ) (facts : FileFacts file text) (rs : List Reply) where
  abbrev written : List (List ℕ)
  written = drop 4 (lines_of text)

  abbrev n : ℕ
  n = file.lines

  -- write line j, counted from 0, is line 5 + j
  values_at_lem : (j : ℕ) → values_of digit_val (get_or written j []) ≡ values_at text (5 + j)
  values_at_lem j =
      let e : 5 + j - 1 ≡ 4 + j = omega arith in
      rw (e, get_or-drop 4 (lines_of text) j [])

  inside : (j : ℕ) → j < length written → 5 + j ≤ n
  inside j h = omega (arith, length-drop 4 (lines_of text), facts.many, facts.lines)

  formed : (j : ℕ) → j < length written → LineForm (5 + j) (values_of digit_val (get_or written j []))
  formed j h = rw (values_at_lem j) (facts.form (5 + j) (omega arith) (omega (arith, inside j h, facts.lines)))

  abbrev line_at : ℕ → Asked
  line_at j = line_asked T.address (5 + j) (line_of (values_of digit_val (get_or written j [])))

  line_agrees : (j : ℕ) → j < length written → Agrees (burning T.address) n (line_at j)
  unfolding is_burn_mark
  line_agrees j h =
      let v = values_of digit_val (get_or written j []) in
      let f = formed j h in
      let s = line_spelt T.address (5 + j) v (omega arith) f in
      let burn = burning T.address in
      ap (λ (q : Request). same_bytes q.bytes burn.bytes) s.own
      ∙ split (eqb (5 + j) n)
      (λ e. let last : 5 + j ≡ length (lines_of text) = eqb-true (5 + j) n e ∙ facts.lines in
      let b : BurnBytes v = rw (values_at_lem j, last) facts.burn_last in
      ap (λ (q : Request). same_bytes q.bytes burn.bytes) (s.burn b) ∙ (same_self burn.bytes ∙ sym e))
      (λ e. split (same_bytes (write_of T.address f.command f.content).bytes burn.bytes)
      (λ g. absurd (facts.burn_once (5 + j) (omega arith) (omega (arith, inside j h, facts.lines, eqb-false (5 + j) n e)) (rw (values_at_lem j) at (s.only g))))
      (λ g. g ∙ sym e))

  pub spelled_once : reserved T.restore ≡ false → SpelledOnce T file text rs W
  unfolding SpelledOnce guide_for write_lines_of
  spelled_once e = rw right.burn (agree (burning T.address) n (guide_every T file (others_agree n T file e) written line_agrees) rs)

  abbrev Tells : Asked → Type 0
  Tells q = (i : ℕ) → q.mark ≡ file_line i → (5 ≤ i) × (i ≤ file.lines) × (q.request ≡ W.line (values_at text i))

  line_tells : (j : ℕ) → j < length written → Tells (line_at j)
  line_tells j h i e =
      let f : 5 + j ≡ i = cc in
      (omega arith, omega (arith, inside j h), line_out_lem T.address W right (5 + j) _ (omega arith) (formed j h) ∙ rw (values_at_lem j, f))

  other_tells : (q : Request) → Other T file q → Tells (asked other q)
  other_tells q o i e = let z : ◌≡◌ {A = ℕ} 0 1 = cc in absurd (let y : ⊥ = omega arith in y)

  pub marks_tell : MarksTell T file text rs W
  unfolding guide_for write_lines_of
  marks_tell =
      let every = guide_every {P = Tells} T file other_tells written line_tells in
      record { tells = λ q i m e. every_request {P = Tells} every rs q m i e }

-- ---- with the address in use, and at C0 as they stand

pub marks_in_use : (T : Terms) (file : Summary) (text : List ℕ) → FileFacts file text → (rs : List Reply) → MarksTell T file text rs (in_use T.address)
marks_in_use T file text facts rs = marks_tell (in_use T.address) T (in_use_lem T.address) file text facts rs

pub marks_at_C0 : (T : Terms) → T.address ≡ 0xC0 → (file : Summary) (text : List ℕ) → FileFacts file text → (rs : List Reply)
    → MarksTell T file text rs as_they_stand
marks_at_C0 T e file text facts rs = marks_tell as_they_stand T (rw e stands) file text facts rs
