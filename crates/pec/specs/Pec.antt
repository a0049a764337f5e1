-- The packet error code (PEC), bit by bit from its polynomial (document 01, "The PEC"): a CRC of 8 bits, polynomial
-- x^8 + x^2 + x + 1, start 0, high bit first, nothing inverted. Assumes nothing.
use Rattle.std.specs.Prelude.{ℕ, zero, suc, ◌*◌, ◌%◌, Bool, cond, List, [], ◌∷◌, leb}
use Rattle.std.specs.Int.Bits.{bit_xor}

-- whether the highest of the register's 8 bits is 1: that bit leaves first
unfoldable pub top_bit : ℕ → Bool
top_bit c = leb 128 c

-- one shift: the top bit, x^8 once shifted, leaves; where it was 1 the rest of the polynomial, x^2 + x + 1, is taken off
unfoldable pub shift : ℕ → ℕ
shift c = bit_xor (2 * c % 256) (cond (top_bit c) 7 0)

unfoldable pub shifts : ℕ → ℕ → ℕ
shifts zero c = c
shifts (suc n) c = shifts n (shift c)

-- the remainder for the single byte b: a shift for each of its bits
unfoldable pub remainder : ℕ → ℕ
remainder b = shifts 8 b

-- the register after one more byte
unfoldable pub step : ℕ → ℕ → ℕ
step c b = remainder (bit_xor c b)

-- the register after some bytes, from the register c
unfoldable pub pec_from : ℕ → List ℕ → ℕ
pec_from c [] = c
pec_from c (b ∷ bs) = pec_from (step c b) bs

-- the PEC of some bytes: the start is 0
abbrev pub pec : List ℕ → ℕ
pec bs = pec_from 0 bs
