-- The pieces, one behind the other. Assumes nothing.
use Rattle.text.proofs.Laws.{one, more}
use Rattle.shown.specs.Shown.{row_of}
use Rattle.shown.proofs.put_row.Goals as goal

pub returns : goal.returns
unfolding row_of
returns c = more (more (more (one c.hex.ensures) c.bytes.ensures) c.hex-2.ensures) c.bytes-2.ensures
