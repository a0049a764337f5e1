-- Before turn i the first i bytes are put. Assumes nothing.
use Rattle.text.specs.Private.Pieces.{PutsIfRoom}
use Rattle.dryrun.specs.Lines.{used_hex}
use Rattle.dryrun.proofs.lines.put_used.Given as goal

abbrev pub invariant-loop-i : goal.invariant-loop-i
invariant-loop-i l = PutsIfRoom l.initial.page (used_hex l.bytes l.i) l.page
