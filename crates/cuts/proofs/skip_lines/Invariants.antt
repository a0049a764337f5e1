-- Behind the lines so far. Assumes nothing.
use Rattle.std.proofs.Common.{◌≡◌, ◌≤◌, length}
use Rattle.cuts.specs.Lines.{place_of}
use Rattle.cuts.proofs.skip_lines.Given as goal

abbrev pub invariant-loop : goal.invariant-loop
invariant-loop l = (l.next ≡ place_of l.counter l.s) × (l.next ≤ length l.s)
