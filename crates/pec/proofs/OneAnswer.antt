-- One answer: any two results that the promise of a public function allows for the same input are equal. tests/check-unique holds each
-- of these to the source. Assumes nothing.
use mathlib.Core.Path.{◌≡◌, ◌∙◌, sym}
use mathlib.Core.List.{List}
use Prim.Native.Nat.{ℕ, ◌<◌}
use native.Mathlib.Omega.{arith}
use lib.ListN.{length}
use lib.Seq.{ext_get_or}
use Rattle.pec.specs.Pec.{pec, pec_from, step}
use Rattle.pec.specs.Lent.{IsTable, run_with, step_with}
use Rattle.promise.specs.One.{One}
use Rattle.promise.proofs.Equal.{one_answer}

pub one-table : One (λ r. IsTable r)
one-table r q a b = ext_get_or 0 r q (a.size ∙ sym b.size) (λ i h. a.entry i (inside i h) ∙ sym (b.entry i (inside i h)))
  where
    inside : (i : ℕ) → i < length r → i < 256
    inside i h = omega (arith, a.size)

pub one-lent : One (λ r. IsTable r)
one-lent = one-table

pub one-step_with : (table : List ℕ) (register byte : ℕ) → One (λ r. r ≡ step_with table register byte)
one-step_with table register byte = one_answer _

pub one-run_with : (table : List ℕ) (register : ℕ) (bytes : List ℕ) → One (λ r. r ≡ run_with table register bytes)
one-run_with table register bytes = one_answer _

pub one-step : (register byte : ℕ) → One (λ r. r ≡ step register byte)
one-step register byte = one_answer _

pub one-run : (register : ℕ) (bytes : List ℕ) → One (λ r. r ≡ pec_from register bytes)
one-run register bytes = one_answer _

pub one-of : (bytes : List ℕ) → One (λ r. r ≡ pec bytes)
one-of bytes = one_answer _
