-- The pieces, one behind the other. Assumes nothing.
use Rattle.std.proofs.Common.{arith}
use Rattle.text.proofs.Laws.{one, more, both}
use Rattle.text.specs.Text.{bytes_of}
use Rattle.dryrun.specs.Lines.{checked_line}
use Rattle.dryrun.proofs.Lengths.{checked-length}
use Rattle.dryrun.proofs.lines.put_checked.Goals as goal

pub returns : goal.returns
unfolding checked_line bytes_of
returns c =
    (both (more (one c.bytes.ensures) c.decimal.ensures) c.put_where.ensures).fitting
    (omega (arith, c.told-out, checked-length c.args.told))
