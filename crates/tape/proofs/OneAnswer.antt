-- One answer: any two results that the promise of a public function allows for the same input are equal. tests/check-unique holds each
-- of these to the source. Assumes nothing.
use mathlib.Core.Path.{◌≡◌}
use mathlib.Core.List.{List}
use Prim.Native.Nat.{ℕ}
use lib.ListN.{length}
use Rattle.tape.specs.Replies.{found_at, whole_replies}
use Rattle.promise.specs.One.{One}
use Rattle.promise.proofs.Equal.{one_answer}

pub one-reply_at : (input : List ℕ) (at : ℕ) → One (λ r. r ≡ found_at input at)
one-reply_at input at = one_answer _

pub one-replies_whole : (input : List ℕ) (from : ℕ) → One (λ r. r ≡ whole_replies (length input) input from)
one-replies_whole input from = one_answer _
