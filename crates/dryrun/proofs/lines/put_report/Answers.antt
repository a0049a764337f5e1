-- There is room for the whole. Assumes nothing.
use Rattle.std.proofs.Common.{arith}
use Rattle.dryrun.proofs.Lengths.{report-length}
use Rattle.dryrun.proofs.lines.put_report.Goals as goal

pub returns : goal.returns
returns c = c.put_standing.ensures.fitting (omega (arith, c.told-out, report-length c.args.report))
