-- No equal pair is among those passed. Assumes nothing.
use mathlib.Core.Path.{◌≡◌}
use mathlib.Core.Bool.{false}
use Prim.Native.Nat.{◌≤◌}
use Rattle.image.specs.Private.Walk.{same_at, same_in}
use Rattle.image.proofs.config_lines.same_in.Given as goal

abbrev pub invariant-loop-j : goal.invariant-loop-j
invariant-loop-j l = (l.same ≡ false) × (same_at l.ids l.i l.j ≡ false) × (l.j ≤ l.i)

abbrev pub invariant-pairs : goal.invariant-pairs
invariant-pairs l = (l.same ≡ false) × (same_in l.ids l.i ≡ false) × (l.i ≤ l.k)
