-- The text is digits where the rest is. Assumes nothing.
use Rattle.std.proofs.Common.{◌≡◌, drop}
use Rattle.line.specs.Digits.{digit_by, all_digits}
use Rattle.line.proofs.reader.Reader.all_digits.Given as goal

abbrev pub invariant-loop-b : goal.invariant-loop-b
invariant-loop-b l = all_digits (digit_by l.self.digits.now) l.t ≡ all_digits (digit_by l.self.digits.now) (drop l.b-index l.t)
