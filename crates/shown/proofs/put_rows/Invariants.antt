-- Before turn n the lines of the first n configurations are put. Assumes nothing.
use Rattle.text.specs.Private.Pieces.{PutsIfRoom}
use Rattle.shown.specs.Shown.{rows_to}
use Rattle.shown.proofs.put_rows.Given as goal

abbrev pub invariant-loop-n : goal.invariant-loop-n
invariant-loop-n l = PutsIfRoom l.initial.page (rows_to l.s l.n) l.page
