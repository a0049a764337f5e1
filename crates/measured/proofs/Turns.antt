-- One reply more. Assumes nothing.
use mathlib.Core.Path.{◌≡◌}
use mathlib.Core.List.{List}
use Prim.Native.Nat.{ℕ, zero, suc, ◌-◌, ◌<◌}
use native.Mathlib.Omega.{arith}
use Rattle.session.specs.declared.Session.{Session}
use Rattle.tape.specs.Replies.{found_at}
use Rattle.measured.specs.Replies.{fed_by, fed_of}

pub after_step : (input file : List ℕ) (left at : ℕ) (s : Session) → 0 < left
    → fed_of input file left at s ≡ fed_by input file s (found_at input at) (fed_of input file (left - 1))
unfolding fed_of
after_step input file zero at s h = absurd (let no : ⊥ = omega arith in no)
after_step input file (suc left) at s h = let e : suc left - 1 ≡ left = omega arith in rw e
