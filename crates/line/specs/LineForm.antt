-- What a line must be, said without tests and without an order (document 01, "Lines of the file"). No promise cites this
-- page: proofs/GoodExactly.antt shows that a line reads as good exactly where it is met. Assumes nothing.
use Rattle.std.specs.Prelude.{◌≡◌, ◌⊎◌, List, [], ◌∷◌, ◌++◌, ℕ, ◌+◌, ◌*◌, ◌≤◌, length}
use Rattle.pec.specs.Pec.{pec}

-- a byte of the text is a digit with a value: 0-9, A-F and a-f
pub data Digit : ℕ → ℕ → Type 0 where
  numeral : (d : ℕ) → d ≤ 9 → Digit (48 + d) d
  capital : (d : ℕ) → d ≤ 5 → Digit (65 + d) (10 + d)
  small : (d : ℕ) → d ≤ 5 → Digit (97 + d) (10 + d)

-- a text spells some bytes, two digits for each
pub data Spells : List ℕ → List ℕ → Type 0 where
  none : Spells [] []
  pair : (a b high low : ℕ) (t v : List ℕ) → Digit a high → Digit b low → Spells t v → Spells (a ∷ b ∷ t) ((16 * high + low) ∷ v)

-- the table's rows: line, tag, command, count of data bytes
pub data Row : ℕ → ℕ → ℕ → ℕ → Type 0 where
  identity : Row 1 0x49 0xAD 4
  revision : Row 2 0x49 0xAE 4
  third : (count : ℕ) → 1 ≤ count → count ≤ 32 → Row 3 0x49 0x01 count
  fourth : (count : ℕ) → 1 ≤ count → count ≤ 32 → Row 4 0x49 0x02 count
  two : (n command : ℕ) → 5 ≤ n → (command ≡ 0xC7) ⊎ (command ≡ 0xE7) → Row n 0x00 command 2
  four : (n command : ℕ) → 5 ≤ n → (command ≡ 0xC5) ⊎ (command ≡ 0xC6) → Row n 0x00 command 4

-- line n is the bytes tag, length, address, command, data, CRC: length counts what follows it, the address is C0, the CRC is
-- the PEC of address, command and data
pub record LineForm (n : ℕ) (v : List ℕ) : Type 0 where
  pub tag : ℕ
  pub command : ℕ
  pub content : List ℕ
  pub row : Row n tag command (length content)
  pub bytes : v ≡ tag ∷ (3 + length content) ∷ 0xC0 ∷ command ∷ (content ++ (pec (0xC0 ∷ command ∷ content) ∷ []))
