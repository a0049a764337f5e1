-- Before each turn the digits of the whole are those of the rest, then what stands from i on. Assumes nothing.
use Rattle.std.proofs.Common.{◌≡◌, ◌++◌, length, drop}
use Rattle.text.specs.Text.{digits}
use Rattle.text.proofs.spell.Given as goal

abbrev pub invariant-loop-i : goal.invariant-loop-i
invariant-loop-i l = digits l.base (length l.initial.out) l.n ≡ digits l.base l.i l.rest ++ drop l.i l.out
