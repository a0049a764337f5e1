-- Lists of numbers, as the definitions of several crates test them. Assumes nothing.
use Rattle.std.specs.Prelude.{ℕ, Bool, true, false, cond, List, [], ◌∷◌, eqb}

-- whether a number is one of these
unfoldable pub is_in : ℕ → List ℕ → Bool
is_in b [] = false
is_in b (x ∷ xs) = cond (eqb b x) true (is_in b xs)
