-- One test over all entries, carried to each; past them every byte is no digit. Assumes nothing.
use Rattle.std.proofs.Common.{refl}
use Rattle.pec.proofs.Entries.{follows}
use Rattle.line.specs.Digits.{digit_val}
use Rattle.line.proofs.LentIsRight.{keeps}
use Rattle.line.proofs.lent.Goals as goal

pub returns : goal.returns
unfolding follows digit_val
returns c = keeps refl refl
