-- The place behind the lines is the same from each block passed. Assumes nothing.
use Rattle.std.proofs.Common.{◌≡◌, ◌+◌, ◌≤◌, length, drop}
use Rattle.cuts.specs.Lines.{place_of}
use Rattle.cuts.proofs.blocks.skip_blocks.Given as goal

abbrev pub invariant-loop-block : goal.invariant-loop-block
invariant-loop-block l =
    (goal.iterator-loop-block).is_finite l.block-iterator × (l.block-iterator.size ≡ 128)
    × (l.past ≤ length l.s) × (l.block-iterator.rest.now ≡ drop l.past l.s)
    × (place_of l.lines l.s ≡ l.past + place_of l.left (drop l.past l.s))
