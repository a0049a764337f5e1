-- The lines behind the head. Assumes nothing.
use Rattle.std.proofs.Common.{arith}
use Rattle.text.proofs.Laws.{both}
use Rattle.shown.specs.Shown.{accepted_text}
use Rattle.shown.proofs.Lengths.{accepted-length}
use Rattle.shown.proofs.put_accepted.Goals as goal

pub returns : goal.returns
unfolding accepted_text
returns c = (both c.put_head.ensures c.put_rows.ensures).fitting (omega (arith, c.told-out, accepted-length c.args.s c.requires))
