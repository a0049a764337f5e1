-- Where the run of digits ends the line, what is taken is the reading. Assumes nothing.
use Rattle.std.proofs.Common.{◌+◌, ◌∙◌, sym, ap, arith}
use Rattle.line.specs.Reading.{LineReading, next_by}
use Rattle.line.proofs.Taking.{usual_here}
use Rattle.line.proofs.reader.Reader.usual_of.Goals as goal

pub returns : goal.returns
unfolding next_by
returns g c =
    let a = c.args in
    let e = a.at + g.row.DIGITS in
    usual_here a.self.digits.now a.self.table.now a.n a.at e a.s.now c.in_ok-next.next (omega arith) (omega (arith, c.requires.room))
    (sym c.ends_run.ensures ∙ c.in_ok-next.was) ∙ ap (λ (x : LineReading). next_by x c.in_ok-next.next) c.in_ok-line.ensures
