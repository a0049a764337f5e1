-- A place of the data, or past it. Assumes nothing.
use Rattle.std.proofs.Common.{◌-◌, ◌∙◌, sym, length, arith}
use Rattle.line.specs.Digits.{digit_by, values_of}
use Rattle.line.proofs.LineParts.{values_length, slice_get, slice_past}
use Rattle.line.proofs.reader.Reader.data_at.Goals as goal

pub returns-then-i-t : goal.returns-then-i-t
returns-then-i-t c =
    let v = values_of (digit_by c.args.self.digits.now) c.args.t.now in
    let l = values_length (digit_by c.args.self.digits.now) c.args.t.now in
    c.value_at.ensures ∙ sym (slice_get v 4 (length v - 1) c.args.i (omega arith))

pub returns-else-i-t : goal.returns-else-i-t
returns-else-i-t c =
    let v = values_of (digit_by c.args.self.digits.now) c.args.t.now in
    let l = values_length (digit_by c.args.self.digits.now) c.args.t.now in
    sym (slice_past v 4 (length v - 1) c.args.i (omega arith) (omega arith))
