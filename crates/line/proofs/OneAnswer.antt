-- One answer: any two results that the promise of a public function allows for the same input are equal. tests/check-unique holds each
-- of these to the source. Assumes nothing.
use mathlib.Core.Path.{◌∙◌, ◌≡◌, sym}
use mathlib.Core.List.{List}
use Prim.Native.Nat.{◌<◌, ℕ}
use native.Mathlib.Omega.{arith}
use lib.Seq.{ext_get_or}
use borrow.Author.Tests.{lt-ltb}
use Rattle.counts.specs.declared.LineNumber.{LineNumber}
use Rattle.line.specs.declared.Fault.{Fault}
use Rattle.line.specs.Digits.{IsDigits, digit_by}
use Rattle.line.specs.Reading.{fault_number, next_line}
use Rattle.line.specs.Lent.{lent_next}
use Rattle.promise.specs.One.{One}
use Rattle.promise.proofs.Equal.{one_answer}

pub one-Fault-number : (self : Fault) → One (λ r. r ≡ fault_number self)
one-Fault-number self = one_answer _

pub one-digits : One (λ r. IsDigits r)
unfolding digit_by
one-digits r q e f =
    ext_get_or 0 r q (e.size ∙ sym f.size) λ i h.
    let small : i < 256 = omega (arith, e.size) in
    (simp (lt-ltb i 256 small) at (e.entry i)) ∙ sym (simp (lt-ltb i 256 small) at (f.entry i))

pub one-read_at : (digits table s : List ℕ) (at : ℕ) (n : LineNumber) → One (λ r. r ≡ lent_next digits table n at s)
one-read_at digits table s at n = one_answer _

pub one-next_at : (s : List ℕ) (at : ℕ) (n : LineNumber) → One (λ r. r ≡ next_line n at s)
one-next_at s at n = one_answer _
