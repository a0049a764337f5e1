-- One answer: any two results that the promise of a public function allows for the same input are equal. tests/check-unique holds each
-- of these to the source. Assumes nothing.
use mathlib.Core.Path.{◌≡◌}
use Rattle.line.specs.declared.Line.{Line}
use Prim.Native.Nat.{ℕ}
use Rattle.summary.specs.declared.Whole.{Whole}
use Rattle.summary.specs.declared.Refusal.{Refusal}
use Rattle.summary.specs.declared.Checked.{Checked}
use Rattle.summary.specs.Answers.{FileAnswer, plain, whole_number, refusal_told, answer_told, no_summary}
use Rattle.summary.specs.Burn.{is_burn}
use Rattle.promise.specs.One.{One}
use Rattle.promise.proofs.Equal.{one_answer}

pub one-Told-plain : (number : ℕ) → One (λ r. r ≡ plain number)
one-Told-plain number = one_answer _

pub one-Whole-number : (self : Whole) → One (λ r. r ≡ whole_number self)
one-Whole-number self = one_answer _

pub one-Refusal-told : (self : Refusal) → One (λ r. r ≡ refusal_told self)
one-Refusal-told self = one_answer _

pub one-told_of : (answer : FileAnswer) → One (λ r. r ≡ answer_told answer)
one-told_of answer = one_answer _

pub one-Checked-told : (self : Checked) → One (λ r. r ≡ answer_told self.answer)
one-Checked-told self = one_answer _

pub one-Summary-none : One (λ r. r ≡ no_summary)
one-Summary-none = one_answer _

pub one-is_burn : (l : Line) → One (λ r. r ≡ is_burn l)
one-is_burn l = one_answer _
