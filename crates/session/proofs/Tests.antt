-- Laws of lists of tests, and of a choice by a test. Assumes nothing.
use Prim.Native.Nat.{ℕ, zero, suc}
use mathlib.Core.Path.{◌≡◌, refl, sym, ap}
use mathlib.Core.Logic.{◌⊎◌, inl, inr}
use mathlib.Core.Bool.{Bool, true, false, cond}
use mathlib.Core.List.{List, [], ◌∷◌}
use native.Mathlib.Omega.{arith}
use lib.ListN.{get_or}
use Rattle.session.specs.Sound.{all}

-- each test of a list that holds as a whole
pub all_at : (l : List Bool) (i : ℕ) → all l ≡ true → get_or l i true ≡ true
unfolding all
all_at [] i e = refl
all_at (true ∷ bs) zero e = refl
all_at (true ∷ bs) (suc i) e = all_at bs i e
all_at (false ∷ bs) i e = let z : ◌≡◌ {A = ℕ} 0 1 = cc in absurd (omega arith)

-- a test that fails, wherever it stands
pub all_not : (l : List Bool) (i : ℕ) → get_or l i true ≡ false → false ≡ all l
unfolding all
all_not [] i e = sym e
all_not (true ∷ bs) zero e = let z : ◌≡◌ {A = ℕ} 0 1 = cc in absurd (omega arith)
all_not (true ∷ bs) (suc i) e = all_not bs i e
all_not (false ∷ bs) i e = refl

-- the first test of a list that fails, or the others
pub fails : (a : Bool) (bs : List Bool) → all (a ∷ bs) ≡ false → (a ≡ false) ⊎ (all bs ≡ false)
unfolding all
fails true bs e = inr e
fails false bs e = inl refl

pub none : {A : Type 0} → all [] ≡ false → A
unfolding all
none e = let z : ◌≡◌ {A = ℕ} 0 1 = cc in absurd (let y : ⊥ = omega arith in y)

-- a choice by a test whose outcome is known, with nothing rewritten in the two sides
pub chosen : {A : Type 0} (a b : Bool) (x y : A) → a ≡ b → cond b x y ≡ cond a x y
chosen a b x y e = ap (λ (z : Bool). cond z x y) (sym e)
