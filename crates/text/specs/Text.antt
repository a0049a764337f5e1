-- Texts and numbers as bytes, and bytes at a place of a buffer. Assumes nothing.
use Rattle.std.specs.Prelude.{◌≡◌, ℕ, zero, suc, ◌+◌, ◌/◌, ◌%◌, Bool, cond, List, [], ◌∷◌, ◌++◌, eqb, ltb, leb, length, take, drop}
use Prim.Native.Char.{code}
use Prim.Native.String.{String, [] as noText, ◌∷◌ as ◌then◌}

-- a text's bytes
unfoldable pub bytes_of : String → List ℕ
bytes_of noText = []
bytes_of (c then s) = code c ∷ bytes_of s

abbrev pub space : List ℕ
space = 32 ∷ []

-- LF
abbrev pub line_end : List ℕ
line_end = 10 ∷ []

-- the ASCII code of a digit: 0 to 9, then A to F
unfoldable pub glyph : ℕ → ℕ
glyph d = cond (ltb d 10) (48 + d) (55 + d)

-- the last digits of n in a base, so many of them, the highest first
unfoldable pub digits : ℕ → ℕ → ℕ → List ℕ
digits base zero n = []
digits base (suc places) n = digits base places (n / base) ++ (glyph (n % base) ∷ [])

abbrev pub hex : ℕ → ℕ → List ℕ
hex places n = digits 16 places n

-- zeros before the first digit that counts; the last digit always does
unfoldable pub zeros_before : List ℕ → ℕ
zeros_before [] = 0
zeros_before (d ∷ []) = 0
zeros_before (d ∷ e ∷ ds) = cond (eqb d 48) (suc (zeros_before (e ∷ ds))) 0

-- without leading zeros; twenty digits hold every number of 64 bits
unfoldable pub decimal : ℕ → List ℕ
decimal n = drop (zeros_before (digits 10 20 n)) (digits 10 20 n)

-- ---- a buffer with a text at a place, where it fits
unfoldable pub fits : List ℕ → ℕ → List ℕ → Bool
fits out at bs = leb (at + length bs) (length out)

unfoldable pub put_at : List ℕ → ℕ → List ℕ → List ℕ
put_at out at bs = cond (fits out at bs) (take at out ++ bs ++ drop (at + length bs) out) out

-- the place behind it
unfoldable pub behind : List ℕ → ℕ → List ℕ → ℕ
behind out at bs = cond (fits out at bs) (at + length bs) at

-- what putting a text does to a buffer, and the place that it answers
pub record Puts (before : List ℕ) (at : ℕ) (bs after : List ℕ) (next : ℕ) : Type 0 where
  pub place : next ≡ behind before at bs
  pub content : after ≡ put_at before at bs
