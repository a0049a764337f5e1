-- The end of the run is the same from each digit passed. Assumes nothing.
use Rattle.std.proofs.Common.{◌≡◌, ◌+◌, drop}
use Rattle.line.specs.Digits.{digit_run, digit_by}
use Rattle.line.proofs.reader.Reader.run_of.Given as goal

abbrev pub invariant-loop-i : goal.invariant-loop-i
invariant-loop-i l = digit_run (digit_by l.self.digits.now) l.t ≡ l.i + digit_run (digit_by l.self.digits.now) (drop l.i l.t)
