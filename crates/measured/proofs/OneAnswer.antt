-- One answer: any two results that the promise of a public function allows for the same input are equal. tests/check-unique holds each
-- of these to the source. Assumes nothing.
use mathlib.Core.Path.{◌≡◌}
use mathlib.Core.List.{List}
use Prim.Native.Nat.{ℕ}
use Rattle.pec.specs.Lent.{run_with}
use Rattle.measured.specs.Replies.{sent_after}
use Rattle.measured.specs.Begin.{sent_at_begin}
use Rattle.promise.specs.One.{One}
use Rattle.promise.proofs.Equal.{one_answer}

pub one-measured_run_with : (table : List ℕ) (register : ℕ) (bytes : List ℕ) → One (λ r. r ≡ run_with table register bytes)
one-measured_run_with table register bytes = one_answer _

pub one-measured_replies : (input : List ℕ) (replies : ℕ) → One (λ r. r ≡ sent_after input replies)
one-measured_replies input replies = one_answer _

pub one-measured_begin : (lines configs line5 : ℕ) (ids : List ℕ) → One (λ r. r ≡ sent_at_begin lines configs line5 ids)
one-measured_begin lines configs line5 ids = one_answer _
