-- By the figures of each kind: N is at most k - 1, and 12 and c are at most s + 12. Assumes nothing.
use Prim.Native.Nat.{ℕ}
use native.Mathlib.Omega.{arith}
use Rattle.counts.specs.declared.Kind.{Kind}
use Rattle.counts.specs.declared.Kind.TheVariants.{Legacy, Production}
use Rattle.counts.specs.Inside.{Inside}

pub inside : (kind : Kind) (k N : ℕ) → Inside kind k N
inside Legacy k N = record { id = λ h. omega arith; crc = λ h. omega arith }
inside Production k N = record { id = λ h. omega arith; crc = λ h. omega arith }
