-- The table of document 01, "Numbers for a file", for any text: number, line and place, each row by what its number means, over the
-- lines of the text, the bytes that they spell and the PEC; the order is the turn of a row. Neither a test nor a definition that cuts,
-- reads or checks stands in it. No promise cites this page: proofs/GivenExactly.antt shows that the check gives each exactly where it
-- stands here. Assumes nothing.
use Rattle.std.specs.Prelude.{◌≡◌, ◌⊎◌, ℕ, ◌+◌, ◌≤◌, ◌<◌, length, get_or}
use mathlib.Core.List.{List, [], ◌∷◌, ◌++◌, Memᴰ}
use Rattle.promise.specs.First.{First}
use Rattle.cuts.specs.Text.{Text}
use Rattle.line.specs.LineTable.{LineTable}
use Rattle.summary.specs.declared.Told.{Told}
use Rattle.summary.specs.Answers.{answer_told}
use Rattle.image.specs.Check.{check_of}
use Rattle.image.specs.Meets.{command_in, data_in, Accepts29, BurnBytes, numbered, Laid, id_bytes, crc_bytes, id_digit, Spelled, Meets}

-- of the bytes of all lines: turn and number. 7 for under 13 lines, 8, 9, 7 for n, 10, 11, 13; 12 is unused (request R-9)
pub data WholeTable (vs : List (List ℕ)) : ℕ → ℕ → Type 0 where
  -- under 13 lines
  COUNT_13 : length vs < 13 → WholeTable vs 1 7
  -- first byte not 00, 01, 06, 07
  REVISION : (Memᴰ (data_in 0 (numbered vs 2)) (0x00 ∷ 0x01 ∷ 0x06 ∷ 0x07 ∷ []) → ⊥) → WholeTable vs 2 8
  -- identity not among the 29
  DEVICE : (Accepts29 (numbered vs 1) → ⊥) → WholeTable vs 3 9
  -- n fits no k from 1 to 8, by the revision's kind
  COUNT_n : (Laid vs → ⊥) → WholeTable vs 4 7
  -- last line is not the burn, or an earlier one is
  BURN : (BurnBytes (numbered vs (length vs)) → ⊥) ⊎ ((n : ℕ) × (1 ≤ n) × (n < length vs) × BurnBytes (numbered vs n)) → WholeTable vs 5 10
  -- an identifier or CRC line is not C6
  SPOT : (l : Laid vs) (N : ℕ) → N < l.configs → (command_in (id_bytes l N) ≡ 0xC6 → ⊥) ⊎ (command_in (crc_bytes l N) ≡ 0xC6 → ⊥) → WholeTable vs 6 11
  -- two identifiers are equal
  SAME : (l : Laid vs) (i j : ℕ) → j < i → i < l.configs → id_digit l i ≡ id_digit l j → WholeTable vs 7 13

-- no number from 2 to 6 applies to any of these lines
abbrev pub Faultless : List (List ℕ) → Type 0
Faultless ls = (i m p : ℕ) → i < length ls → LineTable (1 + i) (get_or ls i []) m p → ⊥

-- of a text: number, line and place
pub data Given (s : List ℕ) : ℕ → ℕ → ℕ → Type 0 where
  -- the meaning of 0
  accepted : Meets s → Given s 0 0 0
  -- more than 65,536 bytes
  SIZE : 65536 < length s → Given s 1 0 0
  -- then the first faulty line, and in it 2 to 6
  faulty : (before behind : List (List ℕ)) (t : List ℕ) (m p : ℕ) → length s ≤ 65536 → Text s (before ++ (t ∷ behind)) → Faultless before
      → First (LineTable (1 + length before) t) m p → Given s m (1 + length before) p
  -- then the whole file's
  whole : (ls vs : List (List ℕ)) (turn m : ℕ) → length s ≤ 65536 → Text s ls → Faultless ls → Spelled ls vs → First (WholeTable vs) turn m
      → Given s m 0 0

-- ---- the statement: of every text the check tells this, and nothing else is so of it

module _ (s : List ℕ) where
  abbrev told : Told
  told = answer_told (check_of s).answer

  pub record GivenExactly : Type 0 where
    pub goes : Given s told.number told.line.0 told.place.0
    pub only : (m n p : ℕ) → Given s m n p → (told.number ≡ m) × (told.line.0 ≡ n) × (told.place.0 ≡ p)
