-- A good line says what its bytes say; so where all lines are good, the walk's end is known. Assumes nothing.
use Rattle.summary.specs.Answers.{FileAnswer}
use Rattle.std.specs.Prelude.{Err, Ok}
use mathlib.Core.Path.{◌≡◌, refl, ap, ◌∙◌}
use mathlib.Core.List.{List, [], ◌∷◌, ◌++◌}
use Prim.Native.Nat.{ℕ, zero, suc, ◌+◌}
use native.Mathlib.Omega.{arith}
use lib.ListN.{length, get_or}
use Rattle.counts.specs.Counts.{line_number}
use Rattle.line.specs.declared.Line.{Line}
use Rattle.line.specs.Digits.{digit_val, values_of}
use Rattle.line.specs.Reading.{line_of, read_line, LineReading}
use Rattle.line.proofs.GoodExactly.{good_form}
use Rattle.image.specs.declared.Facts.{Facts}
use Rattle.image.specs.Check.{first_refusal, line_answer, line_answers}
use Rattle.image.specs.Private.Walk.{no_line, facts_with, facts_by, facts_from, Walked}

abbrev pub line_says : List ℕ → Line
line_says t = line_of (values_of digit_val t)

unfoldable pub says_of : List (List ℕ) → List Line
says_of [] = []
says_of (t ∷ ts) = line_says t ∷ says_of ts

pub says-length : (ts : List (List ℕ)) → length (says_of ts) ≡ length ts
unfolding says_of
says-length [] = refl
says-length (t ∷ ts) = ap suc (says-length ts)

-- past the last line too
pub says_at : (ts : List (List ℕ)) (i : ℕ) → get_or (says_of ts) i no_line ≡ line_says (get_or ts i [])
unfolding says_of line_of values_of
says_at [] i = refl
says_at (t ∷ ts) zero = refl
says_at (t ∷ ts) (suc i) = says_at ts i

-- ---- the first line of some that are all good
module _ (f g : Facts) (t : List ℕ) (ts : List (List ℕ)) where
  pub record Goes : Type 0 where
    pub reads : read_line (line_number (f.lines + 1)) t ≡ Ok (line_says t)
    pub rest : facts_from (facts_with f (line_says t)) ts ≡ Ok g

  goes_by : (r : LineReading) → read_line (line_number (f.lines + 1)) t ≡ r → facts_by f r (λ h. facts_from h ts) ≡ Ok g → Goes
  unfolding facts_by
  goes_by (Ok m) q p =
      let e : m ≡ line_says t = (good_form (line_number (f.lines + 1)) t m (omega arith) q).line in
      record { reads = q ∙ ap Ok e; rest = rw e at p }
  goes_by (Err h) q p = let z : ◌≡◌ {A = ℕ} 0 1 = cc in absurd (let y : ⊥ = omega arith in y)

  pub goes : facts_from f (t ∷ ts) ≡ Ok g → Goes
  unfolding facts_from
  goes p = goes_by _ refl p

-- ---- the walk's end is the first refusal of the lines' answers
unfoldable pub answer_by : Walked → FileAnswer → FileAnswer
answer_by (Ok g) a = a
answer_by (Err r) a = Err r

walked_by : (f : Facts) (ts : List (List ℕ)) (more : List FileAnswer) (r : LineReading) →
    ((g : Facts) → g.lines ≡ f.lines + 1 → answer_by (facts_from g ts) (first_refusal more) ≡ first_refusal (line_answers (f.lines + 1 + 1) ts ++ more)) →
    answer_by (facts_by f r (λ h. facts_from h ts)) (first_refusal more)
    ≡ first_refusal (line_answer (line_number (f.lines + 1)) r ∷ (line_answers (f.lines + 1 + 1) ts ++ more))
unfolding facts_by facts_with answer_by first_refusal line_answer
walked_by f ts more (Ok l) on = on (facts_with f l) refl
walked_by f ts more (Err h) on = refl

pub walked_first : (f : Facts) (ts : List (List ℕ)) (more : List FileAnswer) →
    answer_by (facts_from f ts) (first_refusal more) ≡ first_refusal (line_answers (f.lines + 1) ts ++ more)
unfolding facts_from answer_by line_answers
walked_first f [] more = refl
walked_first f (t ∷ ts) more =
    walked_by f ts more (read_line (line_number (f.lines + 1)) t) (λ g e. rw (← e) (walked_first g ts more))
