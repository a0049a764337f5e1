-- A turn is one more line. Assumes nothing.
use Rattle.std.proofs.Common.{add-one}
use Rattle.text.proofs.Laws.{none, both}
use Rattle.shown.specs.Shown.{rows_to}
use Rattle.shown.proofs.put_rows.Goals as goal

pub loop-n-init : goal.loop-n-init
unfolding rows_to
loop-n-init c = none _

pub loop-n-preserved : goal.loop-n-preserved
unfolding rows_to
loop-n-preserved c = rw add-one (both c.loop-n.invariant c.put_row.ensures)
