-- The table of document 01, "Numbers for a file", for a line: 2 to 6, each with the place in the line (request R-1). Said by the digits
-- and the bytes of the line, two digits for each, the rows of the table of lines and the PEC, without the reading's tests; a row says
-- only what its number means, and `First` of promise says the order. No promise cites this page: proofs/LineExactly.antt shows that a
-- line is refused so exactly where this is so. Assumes nothing.
use Rattle.std.specs.Prelude.{◌≡◌, ◌⊎◌, List, [], ◌∷◌, ◌++◌, ℕ, ◌+◌, ◌*◌, ◌%◌, ◌<◌, length, Ok, Err}
use Rattle.promise.specs.First.{First}
use Rattle.pec.specs.Pec.{pec}
use Rattle.counts.specs.Counts.{line_number}
use Rattle.line.specs.declared.Line.{Line}
use Rattle.line.specs.declared.LineRefusal.{LineRefusal}
use Rattle.line.specs.Reading.{fault_number, read_line}
use Rattle.line.specs.LineForm.{Digit, Spells, Row}

-- every byte of a text is a digit
pub data AllDigit : List ℕ → Type 0 where
  none : AllDigit []
  more : (b d : ℕ) (t : List ℕ) → Digit b d → AllDigit t → AllDigit (b ∷ t)

-- where the byte i of a line begins, counted from 0: two digits for each byte before it, and places count from 1
abbrev pub first_digit : ℕ → ℕ
first_digit i = 2 * i + 1

-- the first field of line n that no row has together with the fields before it: tag is byte 0, address 2, command 3, data from 4 on
pub data FirstField (n tag address command count : ℕ) : ℕ → Type 0 where
  -- no row with this tag
  by_tag : ((c k : ℕ) → Row n tag c k → ⊥) → FirstField n tag address command count (first_digit 0)
  -- a row with it, and another address
  by_address : (c k : ℕ) → Row n tag c k → (address ≡ 0xC0 → ⊥) → FirstField n tag address command count (first_digit 2)
  -- the address, and no row with tag and command
  by_command : (c k : ℕ) → Row n tag c k → address ≡ 0xC0 → ((j : ℕ) → Row n tag command j → ⊥) →
      FirstField n tag address command count (first_digit 3)
  -- a row with them, and not with this count of data
  by_count : (k : ℕ) → Row n tag command k → address ≡ 0xC0 → (Row n tag command count → ⊥) →
      FirstField n tag address command count (first_digit 4)

-- of line n, whose text this is: number and place. The numbers are tried in their order
pub data LineTable (n : ℕ) (t : List ℕ) : ℕ → ℕ → Type 0 where
  -- a byte in the line that is no digit: the first
  CHAR : (before : List ℕ) (bad : ℕ) (behind : List ℕ) → t ≡ before ++ (bad ∷ behind) → AllDigit before → ((d : ℕ) → Digit bad d → ⊥) →
      LineTable n t 2 (length before + 1)
  -- odd digits, or under 10, or over 74: the place is behind the last
  PAIRS : (length t % 2 ≡ 1) ⊎ ((length t < 10) ⊎ (74 < length t)) → LineTable n t 3 (length t + 1)
  -- length byte is not the bytes that follow: it is byte 1
  LENGTH : (tag size : ℕ) (behind : List ℕ) → Spells t (tag ∷ size ∷ behind) → (size ≡ length behind → ⊥) → LineTable n t 4 (first_digit 1)
  -- last byte is wrong: not the PEC of address, command and data
  CRC : (tag size : ℕ) (covered : List ℕ) (crc : ℕ) → Spells t (tag ∷ size ∷ (covered ++ (crc ∷ []))) → (crc ≡ pec covered → ⊥) →
      LineTable n t 5 (first_digit (2 + length covered))
  -- the line breaks the table of lines
  FORM : (tag size address command : ℕ) (content : List ℕ) (crc p : ℕ) → Spells t (tag ∷ size ∷ address ∷ command ∷ (content ++ (crc ∷ []))) →
      FirstField n tag address command (length content) p → LineTable n t 6 p

-- ---- the statement: a line is refused with a number and a place exactly where its table gives them first, and good exactly where
-- the table gives none

pub record LineExactly (n : ℕ) (t : List ℕ) : Type 0 where
  pub refused : (r : LineRefusal) → read_line (line_number n) t ≡ Err r → First (LineTable n t) (fault_number r.fault) r.place.0
  pub only : (m p : ℕ) → First (LineTable n t) m p →
      (r : LineRefusal) × (read_line (line_number n) t ≡ Err r) × (fault_number r.fault ≡ m) × (r.place.0 ≡ p)
  pub good : (l : Line) → read_line (line_number n) t ≡ Ok l → (m p : ℕ) → LineTable n t m p → ⊥
  pub none : ((m p : ℕ) → LineTable n t m p → ⊥) → (l : Line) × (read_line (line_number n) t ≡ Ok l)
