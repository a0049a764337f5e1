-- The pieces, one behind the other. Assumes nothing.
use Rattle.std.proofs.Common.{arith}
use Rattle.text.proofs.Laws.{one, more, both}
use Rattle.text.specs.Text.{bytes_of}
use Rattle.dryrun.specs.Lines.{count_line}
use Rattle.dryrun.proofs.Lengths.{count-length}
use Rattle.dryrun.proofs.lines.put_count.Goals as goal

pub returns : goal.returns
unfolding count_line bytes_of
returns c =
    (both (more (more (one c.bytes.ensures) c.decimal.ensures) c.bytes-2.ensures) c.put_mark.ensures).fitting
    (omega (arith, c.told-out, count-length c.args.sent c.args.burned))
