-- The answer from the start is the answer from here with the facts so far. Assumes nothing.
use mathlib.Core.Path.{◌≡◌}
use Prim.Native.Nat.{◌-◌, ◌≤◌}
use lib.ListN.{length, drop}
use Rattle.cuts.specs.Lines.{lines_of}
use Rattle.image.specs.Private.Walk.{facts_from, start}
use Rattle.image.proofs.walk.facts_of.Given as goal

abbrev pub invariant-loop-line : goal.invariant-loop-line
invariant-loop-line l = (facts_from start (lines_of l.s) ≡ facts_from l.facts (lines_of (drop l.at l.s))) × (l.facts.lines ≤ l.at) × (l.at ≤ length l.s)

abbrev pub decreases-loop-line : goal.decreases-loop-line
decreases-loop-line l = length l.s - l.at
