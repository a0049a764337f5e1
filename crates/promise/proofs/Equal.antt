-- A promise that equates the result with a definition of the inputs allows one. Assumes nothing.
use mathlib.Core.Path.{◌≡◌, sym, ◌∙◌}
use Rattle.promise.specs.One.{One}

pub one_answer : {A : Type 0} (a : A) → One (λ r. r ≡ a)
one_answer a r q e f = e ∙ sym f
