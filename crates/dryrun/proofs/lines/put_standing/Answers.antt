-- The pieces, one behind the other. Assumes nothing.
use Rattle.text.proofs.Laws.{one, more, both}
use Rattle.text.specs.Text.{bytes_of}
use Rattle.dryrun.specs.Lines.{report_line}
use Rattle.dryrun.proofs.lines.put_standing.Goals as goal

pub returns-in-Some : goal.returns-in-Some
unfolding report_line bytes_of
returns-in-Some c =
    let number = more (one c.bytes-in-Some.ensures) c.decimal.ensures in
    let config = more (more number c.bytes-in-Some-2.ensures) c.decimal-in-Some.ensures in
    rw c.in-Some.is (both config c.put_where.ensures)
