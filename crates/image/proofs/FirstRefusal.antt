-- The first fault of a list of answers: there is none exactly where every answer accepts, and where every line reads as good.
-- Assumes nothing.
use Rattle.summary.specs.Answers.{FileAnswer}
use Rattle.std.specs.Prelude.{Ok, Err}
use mathlib.Core.Path.{◌≡◌, refl}
use mathlib.Core.Bool.{Bool, true, false}
use mathlib.Core.List.{List, [], ◌∷◌, ◌++◌}
use Prim.Native.Nat.{ℕ, zero, suc, ◌+◌, ◌<◌}
use native.Mathlib.Omega.{arith}
use lib.ListN.{length, get_or}
use Rattle.counts.specs.declared.LineNumber.{LineNumber}
use Rattle.counts.specs.Counts.{line_number}
use Rattle.line.specs.declared.Line.{Line}
use Rattle.line.specs.Reading.{read_line, LineReading}
use Rattle.summary.specs.declared.Whole.{Whole}
use Rattle.summary.specs.declared.Refusal.{Refusal}
use Rattle.image.specs.Check.{refused_if, first_refusal, line_answer, line_answers}

pub refused : {A : Type 0} (r : Refusal) → ◌≡◌ {A = FileAnswer} (Err r) (Ok tt) → A
refused r e = let z : ◌≡◌ {A = ℕ} 0 1 = cc in absurd (let y : ⊥ = omega arith in y)

-- ---- a list of answers

pub first-cons : (a : FileAnswer) (more : List FileAnswer) → first_refusal (a ∷ more) ≡ Ok tt → (a ≡ Ok tt) × (first_refusal more ≡ Ok tt)
unfolding first_refusal
first-cons (Ok tt) more e = (refl, e)
first-cons (Err r) more e = refused r e

pub first-append : (a b : List FileAnswer) → first_refusal (a ++ b) ≡ Ok tt → (first_refusal a ≡ Ok tt) × (first_refusal b ≡ Ok tt)
unfolding first_refusal
first-append [] b e = (refl, e)
first-append ((Ok tt) ∷ a) b e = first-append a b e
first-append (Err r ∷ a) b e = refused r e

pub append_first : (a b : List FileAnswer) → first_refusal a ≡ Ok tt → first_refusal (a ++ b) ≡ first_refusal b
unfolding first_refusal
append_first [] b e = refl
append_first ((Ok tt) ∷ a) b e = append_first a b e
append_first (Err r ∷ a) b e = refused r e

pub passes : (test : Bool) (w : Whole) → refused_if test w ≡ Ok tt → test ≡ false
unfolding refused_if
passes true w e = refused _ e
passes false w e = refl

-- ---- the lines

pub record Reads (n : LineNumber) (t : List ℕ) : Type 0 where
  pub line : Line
  pub good : read_line n t ≡ Ok line

-- all of these lines, the first of which has the number n
abbrev pub AllRead : ℕ → List (List ℕ) → Type 0
AllRead n ts = (i : ℕ) → i < length ts → Reads (line_number (n + i)) (get_or ts i [])

line_reads : (n : LineNumber) (t : List ℕ) (r : LineReading) → read_line n t ≡ r → line_answer n r ≡ Ok tt → Reads n t
unfolding line_answer
line_reads n t (Ok l) p e = record { line = l; good = p }
line_reads n t (Err r) p e = refused _ e

pub lines_read : (ts : List (List ℕ)) (n : ℕ) → first_refusal (line_answers n ts) ≡ Ok tt → AllRead n ts
unfolding line_answers
lines_read [] n e i h = absurd (let y : ⊥ = omega arith in y)
lines_read (t ∷ ts) n e zero h =
    let f : n + 0 ≡ n = omega arith in
    rw f (line_reads (line_number n) t (read_line (line_number n) t) refl (first-cons _ (line_answers (n + 1) ts) e).0)
lines_read (t ∷ ts) n e (suc i) h =
    let f : n + suc i ≡ n + 1 + i = omega arith in
    rw f (lines_read ts (n + 1) (first-cons _ (line_answers (n + 1) ts) e).1 i (omega arith))

pub read_lines : (ts : List (List ℕ)) (n : ℕ) → AllRead n ts → first_refusal (line_answers n ts) ≡ Ok tt
unfolding line_answers line_answer first_refusal
read_lines [] n f = refl
read_lines (t ∷ ts) n f =
    let e : n + 0 ≡ n = omega arith in
    let r : Reads (line_number n) t = rw e at (f 0 (omega arith)) in
    rw r.good (read_lines ts (n + 1) (λ i h. let g : n + suc i ≡ n + 1 + i = omega arith in rw g at (f (suc i) (omega arith))))
