-- Before a turn the register is that of the bytes before it. Assumes nothing.
use Rattle.std.proofs.Common.{◌≡◌, take}
use Rattle.pec.specs.Lent.{run_with}
use Rattle.pec.proofs.run_with.Given as goal

abbrev pub invariant-loop-byte : goal.invariant-loop-byte
invariant-loop-byte l = l.c ≡ run_with l.table l.register (take l.byte-index l.bytes)
