-- What step 1 writes back has bit 5 cleared and nothing else changed. Assumes nothing.
use mathlib.Core.Path.{◌≡◌, refl}
use Prim.Native.Nat.{ℕ, ◌/◌, ◌%◌, ◌≤◌, ◌<◌}
use native.Mathlib.Nat.{div-div-eq-div-mul}
use native.Mathlib.Omega.{arith}
use Rattle.bus.specs.Bus.{eight, framed, write_of, word_bytes}
use Rattle.bus.specs.InForm.{spelled}
use Rattle.guide.specs.Judged.{cleared}
use Rattle.guide.specs.Cleared.{WritesBack}

-- four bytes of a word spell it
nested : (x : ℕ) → x < 4294967296 → spelled (x % 256) (x / 256 % 256) (x / 256 / 256 % 256) (x / 256 / 256 / 256 % 256) ≡ x
nested x h = omega arith

respelled : (x : ℕ) → x < 4294967296 → spelled (x % 256) (x / 256 % 256) (x / 65536 % 256) (x / 16777216 % 256) ≡ x
respelled x h =
    rw (← div-div-eq-div-mul x 256 65536, ← div-div-eq-div-mul x 256 256, ← div-div-eq-div-mul (x / 256) 256 256) (nested x h)

cleared_bits : (w : ℕ) → (cleared w / 32 % 2 ≡ 0) × (cleared w % 32 ≡ w % 32) × (cleared w / 64 ≡ w / 64) × (cleared w ≤ w)
unfolding cleared
cleared_bits w = (omega arith, omega arith, omega arith, omega arith)

pub writes_back : (address w : ℕ) → w < 4294967296 → WritesBack address w (write_of address 0xC5 (word_bytes (cleared w)))
unfolding write_of framed word_bytes eight
writes_back address w h =
    let x = cleared w in
    let bits = cleared_bits w in
    let whole = respelled x (omega (arith, bits.3)) in
    record {
      a = x % 256;
      b = x / 256 % 256;
      c = x / 65536 % 256;
      d = x / 16777216 % 256;
      bytes = refl;
      used = refl;
      writes = refl;
      bit5 = rw whole bits.0;
      below = rw whole bits.1;
      above = rw whole bits.2;
    }
