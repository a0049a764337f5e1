-- The banks passed are right. Assumes nothing.
use mathlib.Core.Path.{◌≡◌}
use mathlib.Core.Bool.{true}
use Prim.Native.Nat.{◌≤◌}
use Rattle.guide.specs.Judged.{every_below, bank_right}
use Rattle.guide.proofs.found.banks_right.Given as goal

abbrev pub invariant-loop-b : goal.invariant-loop-b
invariant-loop-b l = (every_below l.b (bank_right l.configs l.word) ≡ true) × (l.b ≤ 8)
