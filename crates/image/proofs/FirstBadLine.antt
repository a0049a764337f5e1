-- The lines of a text either all read as good or one of them is the first that does not, and the answer of the text by that. Assumes nothing.
use Rattle.summary.specs.Answers.{FileAnswer}
use Rattle.std.specs.Prelude.{Err, Ok}
use mathlib.Core.Path.{◌≡◌, refl, ap}
use mathlib.Core.Logic.{◌⊎◌, inl, inr}
use mathlib.Core.Bool.{false}
use mathlib.Core.List.{List, [], ◌∷◌, ◌++◌}
use Prim.Native.Nat.{ℕ, zero, suc, ◌+◌, ◌≤◌, ◌<◌}
use native.Mathlib.Omega.{arith}
use lib.ListN.{length}
use borrow.Author.Tests.{lt-ltb, le-ltb}
use Rattle.counts.specs.Counts.{line_number}
use Rattle.cuts.specs.Lines.{lines_of}
use Rattle.line.specs.declared.LineRefusal.{LineRefusal}
use Rattle.line.specs.Reading.{read_line, LineReading}
use Rattle.summary.specs.declared.Whole.TheVariants.{Size}
use Rattle.summary.specs.declared.Refusal.TheVariants as refusal
use Rattle.image.specs.Tests.{too_long}
use Rattle.image.specs.Check.{refused_if, first_refusal, line_answer, line_answers, whole_answers, answer_of}
use Rattle.image.proofs.FirstRefusal.{Reads, AllRead}

-- the first line that does not read as good, of lines the first of which has the number n
pub record FirstBad (n : ℕ) (ts : List (List ℕ)) : Type 0 where
  pub before : List (List ℕ)
  pub behind : List (List ℕ)
  pub text : List ℕ
  pub refused : LineRefusal
  pub are : ts ≡ before ++ (text ∷ behind)
  pub good : AllRead n before
  pub bad : read_line (line_number (n + length before)) text ≡ Err refused

none_read : (n : ℕ) → AllRead n []
none_read n i h = absurd (let y : ⊥ = omega arith in y)

more_read : (n : ℕ) (t : List ℕ) (ts : List (List ℕ)) → Reads (line_number n) t → AllRead (n + 1) ts → AllRead n (t ∷ ts)
more_read n t ts r f zero h = let e : n + 0 ≡ n = omega arith in rw e r
more_read n t ts r f (suc i) h = let e : n + suc i ≡ n + 1 + i = omega arith in rw e (f i (omega arith))

pub lines_either : (n : ℕ) (ts : List (List ℕ)) → AllRead n ts ⊎ FirstBad n ts
lines_either n [] = inl (none_read n)
lines_either n (t ∷ ts) = by (read_line (line_number n) t) refl (lines_either (n + 1) ts)
  where
    by : (r : LineReading) → read_line (line_number n) t ≡ r → AllRead (n + 1) ts ⊎ FirstBad (n + 1) ts → AllRead n (t ∷ ts) ⊎ FirstBad n (t ∷ ts)
    by (Err r) e more =
        let here : n + 0 ≡ n = omega arith in
        inr (record { before = []; behind = ts; text = t; refused = r; are = refl; good = none_read n; bad = rw here e })
    by (Ok l) e (inl all) = inl (more_read n t ts (record { line = l; good = e }) all)
    by (Ok l) e (inr b) =
        let on : n + suc (length b.before) ≡ n + 1 + length b.before = omega arith in
        inr (record {
          before = t ∷ b.before;
          behind = b.behind;
          text = b.text;
          refused = b.refused;
          are = ap (λ (x : List (List ℕ)). t ∷ x) b.are;
          good = more_read n t b.before (record { line = l; good = e }) b.good;
          bad = rw on b.bad;
        })

-- the answers of the lines up to it
first_bad : (n : ℕ) (before behind : List (List ℕ)) (t : List ℕ) (r : LineRefusal) (more : List FileAnswer) → AllRead n before →
    read_line (line_number (n + length before)) t ≡ Err r →
    first_refusal (line_answers n (before ++ (t ∷ behind)) ++ more) ≡ Err (refusal.Line (line_number (n + length before)) r)
unfolding line_answers line_answer first_refusal
first_bad n [] behind t r more good bad =
    let here : n + 0 ≡ n = omega arith in
    let e : read_line (line_number n) t ≡ Err r = rw here at bad in
    rw (e, here)
first_bad n (b ∷ before) behind t r more good bad =
    let here : n + 0 ≡ n = omega arith in
    let on : n + suc (length before) ≡ n + 1 + length before = omega arith in
    let g : Reads (line_number n) b = rw here at (good 0 (omega arith)) in
    let rest : AllRead (n + 1) before = λ i h. let x : n + suc i ≡ n + 1 + i = omega arith in rw x at (good (suc i) (omega arith)) in
    rw (g.good, on) (first_bad (n + 1) before behind t r more rest (rw on at bad))

-- ---- the answer of a text

module _ (s : List ℕ) where
  pub long_answer : 65536 < length s → answer_of s ≡ Err (refusal.Whole Size)
  unfolding answer_of too_long refused_if first_refusal
  long_answer h = rw (lt-ltb 65536 (length s) h)

  pub not_long : length s ≤ 65536 → too_long s ≡ false
  unfolding too_long
  not_long h = le-ltb 65536 (length s) h

  pub line_answer_lem : (before behind : List (List ℕ)) (t : List ℕ) (r : LineRefusal) → too_long s ≡ false → before ++ (t ∷ behind) ≡ lines_of s →
      AllRead 1 before → read_line (line_number (1 + length before)) t ≡ Err r →
      answer_of s ≡ Err (refusal.Line (line_number (1 + length before)) r)
  unfolding answer_of refused_if first_refusal
  line_answer_lem before behind t r short are good bad =
      rw (short, ← are) (first_bad 1 before behind t r (whole_answers (before ++ (t ∷ behind))) good bad)
