-- One answer: any two results that the promise of a public function allows for the same input are equal. tests/check-unique holds each
-- of these to the source. Assumes nothing.
use mathlib.Core.Path.{◌≡◌}
use mathlib.Core.List.{List}
use Prim.Native.Nat.{ℕ}
use Rattle.pec.specs.Pec.{pec}
use Rattle.image.specs.Check.{check_of}
use Rattle.summary.specs.Answers.{answer_told}
use Rattle.promise.specs.One.{One}
use Rattle.promise.proofs.Equal.{one_answer}

pub one-tehilgam_pec : (bytes : List ℕ) → One (λ r. r ≡ pec bytes)
one-tehilgam_pec bytes = one_answer _

pub one-tehilgam_refusal : (text : List ℕ) → One (λ r. r ≡ (answer_told (check_of text).answer).number)
one-tehilgam_refusal text = one_answer _
