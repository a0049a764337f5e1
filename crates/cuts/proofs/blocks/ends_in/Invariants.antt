-- The ends so far. Assumes nothing.
use Rattle.std.proofs.Common.{◌≡◌, ◌==◌, ◌≤◌, take, count_by}
use Rattle.cuts.proofs.blocks.ends_in.Given as goal

abbrev pub invariant-loop-byte : goal.invariant-loop-byte
invariant-loop-byte l = (l.count ≡ count_by (λ b. b == 10) (take l.byte-index l.block)) × (l.count ≤ l.byte-index)
