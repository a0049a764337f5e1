-- Document 01, "What the promises have to say": any two results allowed for the same input are equal. Assumes nothing.
use Rattle.std.specs.Prelude.{◌≡◌}

-- a promise allows one result
abbrev pub One : {A : Type 0} → (A → Type 0) → Type 0
One {A} promise = (r q : A) → promise r → promise q → r ≡ q
