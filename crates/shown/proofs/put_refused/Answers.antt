-- The pieces, one behind the other; number, line and place are those told of the refusal. Assumes nothing.
use Rattle.std.proofs.Common.{arith}
use Rattle.text.proofs.Laws.{one, more}
use Rattle.text.specs.Text.{bytes_of}
use Rattle.shown.specs.Shown.{refused_text}
use Rattle.shown.proofs.Lengths.{refused-length}
use Rattle.shown.proofs.put_refused.Goals as goal

pub returns : goal.returns
unfolding refused_text bytes_of
returns c =
    let number = more (one c.bytes.ensures) c.decimal.ensures in
    let line = more (more number c.bytes-2.ensures) c.decimal-2.ensures in
    let place = more (more line c.bytes-3.ensures) c.decimal-3.ensures in
    let whole = more place c.bytes-4.ensures in
    rw (← c.told-told.ensures) (whole.fitting (rw c.told-told.ensures (omega (arith, c.told-out, refused-length c.args.r))))
