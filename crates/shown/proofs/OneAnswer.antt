-- One answer: any two results that the promise of a public function allows for the same input are equal. tests/check-unique holds each
-- of these to the source. Assumes nothing.
use mathlib.Core.List.{List}
use Prim.Native.Nat.{ℕ}
use Rattle.text.proofs.OneAnswer.{OnePut, one-put}
use Rattle.shown.specs.Shown.{shown}

pub one-show : (text out : List ℕ) → OnePut out 0 (shown text)
one-show text out = one-put
