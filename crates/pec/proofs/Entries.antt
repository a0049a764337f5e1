-- A rule that ties each entry of a table to its place: one test over the whole table, which antt computes, and one lemma
-- that carries it to each entry. Assumes nothing.
use mathlib.Core.Path.{◌≡◌, refl}
use mathlib.Core.Bool.{Bool, true, false, cond, false≢true}
use mathlib.Core.List.{List, [], ◌∷◌}
use Prim.Native.Nat.{ℕ, zero, suc, ◌+◌, ◌<◌}
use native.Mathlib.Omega.{arith}
use lib.Dec.{eqb}
use lib.ListN.{length, get_or}
use borrow.Author.Tests.{eqb-true}
use Rattle.pec.specs.Pec.{remainder}
use Rattle.pec.specs.Lent.{IsTable}

module _ (rule : ℕ → ℕ) where
  -- every entry is what the rule gives for its place, the first place being p
  unfoldable pub follows : ℕ → List ℕ → Bool
  follows p [] = true
  follows p (x ∷ xs) = cond (eqb x (rule p)) (follows (suc p) xs) false

  first : (x p : ℕ) (xs : List ℕ) → follows p (x ∷ xs) ≡ true → (x ≡ rule p) × (follows (suc p) xs ≡ true)
  unfolding follows
  first x p xs e = split (eqb x (rule p)) refl e
    where
      split : (t : Bool) → eqb x (rule p) ≡ t → cond t (follows (suc p) xs) false ≡ true → (x ≡ rule p) × (follows (suc p) xs ≡ true)
      split true same rest = (eqb-true _ _ same, rest)
      split false other rest = absurd (false≢true rest)

  later : (xs : List ℕ) (p k : ℕ) → follows p xs ≡ true → k < length xs → get_or xs k 0 ≡ rule (k + p)
  later [] p k e h = absurd (let none : ⊥ = omega arith in none)
  later (x ∷ xs) p zero e h = let here : zero + p ≡ p = omega arith in rw here (first x p xs e).0
  later (x ∷ xs) p (suc k) e h =
      let there : suc k + p ≡ k + suc p = omega arith in
      rw there (later xs (suc p) k (first x p xs e).1 (omega arith))

  -- the test, carried to each entry
  pub entry_follows : (table : List ℕ) → follows 0 table ≡ true → (k : ℕ) → k < length table → get_or table k 0 ≡ rule k
  entry_follows table e k h = let same : k + 0 ≡ k = omega arith in rw same at (later table 0 k e h)

-- a table of 256 entries that follow the rule keeps it
pub keeps : {table : List ℕ} → length table ≡ 256 → follows remainder 0 table ≡ true → IsTable table
keeps {table} size passed = record { size = size; entry = λ b h. entry_follows remainder table passed b (omega (arith, size, h)) }
