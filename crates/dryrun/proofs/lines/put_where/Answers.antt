-- The pieces, one behind the other. Assumes nothing.
use Rattle.text.proofs.Laws.{one, more}
use Rattle.text.specs.Text.{bytes_of}
use Rattle.dryrun.specs.Lines.{told_where}
use Rattle.dryrun.proofs.lines.put_where.Goals as goal

pub returns : goal.returns
unfolding told_where bytes_of
returns c =
    let line = more (one c.bytes.ensures) c.decimal.ensures in
    more (more (more line c.bytes-2.ensures) c.decimal-2.ensures) c.bytes-3.ensures
