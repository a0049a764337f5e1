-- A turn is one more block. Assumes nothing.
use Rattle.std.proofs.Common.{◌∙◌, ◌<◌, ◌==◌, count_by, arith}
use Rattle.cuts.proofs.BlockCounts.{skip_block}
use Rattle.cuts.proofs.blocks.skip_blocks.Goals as goal

pub loop-block-preserved : goal.loop-block-preserved
loop-block-preserved c =
    let l = c.loop-block in
    let block = c.in-Some.block.now in
    let cut = c.in-Some.ensures.steps in
    let few : count_by (λ b. b == 10) block < l.left = omega arith in
    let on = skip_block c.args.s.now l.past 128 l.left block l.invariant.2 l.invariant.3 cut.1.0 (omega arith) few in
    (tt, omega arith, on.0, on.1, l.invariant.4 ∙ rw c.ends_in-ends.ensures on.2)
