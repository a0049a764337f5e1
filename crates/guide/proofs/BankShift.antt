-- For the code alone: a bank's bits by a shift of the register. What the banks mean is in Banks. Assumes nothing.
use mathlib.Core.Path.{◌≡◌, refl}
use Prim.Native.Nat.{ℕ, zero, suc, ◌*◌, ◌/◌, ◌%◌, ◌^◌}
use native.Mathlib.Nat.{pow-succ'}
use native.Mathlib.Omega.{arith}
use Rattle.counts.specs.declared.Bank.{Bank}
use Rattle.guide.specs.Judged.{bank_in}

-- a bank is four bits
four_bits : (b : ℕ) → 2 ^ (4 * b) ≡ 16 ^ b
four_bits zero = refl
four_bits (suc b) =
    let four : 4 * suc b ≡ suc (suc (suc (suc (4 * b)))) = omega arith in
    rw (four, pow-succ' 2 (suc (suc (suc (4 * b)))), pow-succ' 2 (suc (suc (4 * b))), pow-succ' 2 (suc (4 * b)), pow-succ' 2 (4 * b), pow-succ' 16 b)
    (omega (arith, four_bits b))

pub bank_shifted : (w : ℕ) (b : Bank) → w / 2 ^ (4 * b.0) % 16 ≡ bank_in w b
unfolding bank_in
bank_shifted w b = rw (four_bits b.0) refl
