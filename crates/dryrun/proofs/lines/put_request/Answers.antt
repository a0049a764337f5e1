-- The pieces, one behind the other. Assumes nothing.
use Rattle.std.proofs.Common.{arith}
use Rattle.text.proofs.Laws.{both, more}
use Rattle.dryrun.specs.Lines.{request_line}
use Rattle.dryrun.proofs.Lengths.{request-length}
use Rattle.dryrun.proofs.lines.put_request.Goals as goal

pub returns : goal.returns
unfolding request_line
returns c =
    (more (both c.put_verb.ensures c.put_used.ensures) c.bytes.ensures).fitting (omega (arith, c.told-out, request-length c.args.q))
