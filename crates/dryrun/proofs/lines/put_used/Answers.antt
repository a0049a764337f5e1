-- A turn is one more byte. Assumes nothing.
use Rattle.std.proofs.Common.{◌≡◌, arith, add-one}
use Rattle.text.proofs.Laws.{none, more}
use Rattle.dryrun.specs.Lines.{at_most8, used_hex}
use Rattle.dryrun.proofs.Lengths.{at_most_8}
use Rattle.dryrun.proofs.lines.put_used.Goals as goal

pub loop-i-init : goal.loop-i-init
unfolding used_hex
loop-i-init c = none _

pub loop-i-preserved : goal.loop-i-preserved
unfolding used_hex
loop-i-preserved c = rw add-one (more c.loop-i.invariant c.hex.ensures)

pub returns : goal.returns
returns c =
    let all : at_most8 c.args.used ≡ c.loop-i.i = omega (arith, at_most_8 c.args.used) in
    rw all c.loop-i.invariant
