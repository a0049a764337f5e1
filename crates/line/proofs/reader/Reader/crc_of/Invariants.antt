-- The code from the start is the code from here with the register. Assumes nothing.
use Rattle.std.proofs.Common.{◌≡◌, ◌-◌, length}
use lib.Seq.{slice}
use Rattle.pec.specs.Lent.{run_with}
use Rattle.line.specs.Digits.{digit_by, values_of}
use Rattle.line.specs.Reading.{covered_of}
use Rattle.line.proofs.reader.Reader.crc_of.Given as goal

abbrev pub invariant-loop-i : goal.invariant-loop-i
invariant-loop-i l =
    run_with l.self.table.now 0 (covered_of (values_of (digit_by l.self.digits.now) l.t))
    ≡ run_with l.self.table.now l.crc
    (slice l.i (length (values_of (digit_by l.self.digits.now) l.t) - 1) (values_of (digit_by l.self.digits.now) l.t))
