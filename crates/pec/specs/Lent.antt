-- The code run from a lent table, whatever the table holds. By one that keeps the rule it is the PEC's (proofs/Laws.antt,
-- `step_right` and `run_right`). Assumes nothing.
use Rattle.std.specs.Prelude.{◌≡◌, ℕ, ◌<◌, List, [], ◌∷◌, length, get_or}
use Rattle.std.specs.Int.Bits.{bit_xor}
use Rattle.pec.specs.Pec.{remainder}

-- the table's rule: 256 entries, and entry b is the remainder for the single byte b
pub record IsTable (table : List ℕ) : Type 0 where
  pub size : length table ≡ 256
  pub entry : (b : ℕ) → b < 256 → get_or table b 0 ≡ remainder b

unfoldable pub step_with : List ℕ → ℕ → ℕ → ℕ
step_with table c b = get_or table (bit_xor c b) 0

unfoldable pub run_with : List ℕ → ℕ → List ℕ → ℕ
run_with table c [] = c
run_with table c (b ∷ bs) = run_with table (step_with table c b) bs
