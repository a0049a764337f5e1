-- What was put into both lines is what is written. Assumes nothing.
use Rattle.std.proofs.Common.{arith}
use Rattle.std.proofs.KnownBytes.{Appends-trans}
use Rattle.dryrun.specs.Run.{end_lines}
use Rattle.dryrun.proofs.Lengths.{report-length, count-length}
use Rattle.dryrun.proofs.Written.{put_taken, and_ok}
use Rattle.dryrun.proofs.run.write_end.Goals as goal

pub returns : goal.returns
unfolding end_lines
returns g c =
    let verdict = put_taken c.put_report-n.ensures (omega (arith, report-length c.report.result)) in
    let count = put_taken c.put_count-m.ensures (omega (arith, count-length c.args.last.session.sent c.args.last.session.burned)) in
    rw (c.and.ensures, ← c.report.ensures, ← verdict, ← count)
    (and_ok c.write_all-said.result c.write_all.result c.write_all-said.ensures.bytes c.write_all.ensures.bytes (λ first last. Appends-trans _ _ _ _ _ first last))
