-- None of the configurations passed reports in this bank. Assumes nothing.
use mathlib.Core.Path.{◌≡◌}
use mathlib.Core.Bool.{false}
use Prim.Native.Nat.{◌≤◌}
use Rattle.guide.specs.Judged.{reports_in}
use Rattle.guide.proofs.found.reports_in.Given as goal

abbrev pub invariant-loop-n : goal.invariant-loop-n
invariant-loop-n l = (reports_in l.n l.bank ≡ false) × (l.n ≤ l.configs)
