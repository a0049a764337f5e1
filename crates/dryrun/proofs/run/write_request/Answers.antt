-- What was put into the line is what is written. Assumes nothing.
use Rattle.std.proofs.Common.{◌≡◌, eqb, false, arith, ne_eqb}
use Rattle.dryrun.specs.Run.{request_lines}
use Rattle.dryrun.proofs.Lengths.{request-length}
use Rattle.dryrun.proofs.Written.{put_taken}
use Rattle.dryrun.proofs.run.write_request.Goals as goal

pub returns : goal.returns
unfolding request_lines
returns g c =
    let q = c.args.q in
    let line = put_taken c.put_request-n.ensures (omega (arith, request-length q)) in
    let asked : eqb q.used 0 ≡ false = ne_eqb q.used 0 c.if-q-eq0.false in
    rw (asked, ← line) c.write_all.ensures.bytes
