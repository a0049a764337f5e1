-- What reading a line gives (document 01, "Lines of the file" and "Numbers for a file"), by what a byte counts as a digit and
-- by the code that the last byte is held to. Assumes nothing.
use Rattle.std.specs.Prelude.{ℕ, ◌+◌, ◌-◌, ◌%◌, ◌<◌, Bool, true, false, cond, List, [], ◌∷◌, length, get_or, drop, eqb, ltb, leb, Option, Some, None, Result, Ok, Err}
use Rattle.std.proofs.Math.Seq.{slice}
use Rattle.pec.specs.Pec.{pec}
use Rattle.counts.specs.declared.LineNumber.{LineNumber}
use Rattle.cuts.specs.Lines.{lines_of, line_skip}
use Rattle.line.specs.Digits.{digit_val, all_digits, digit_run, values_of}
use Rattle.line.specs.Places.{fault_at, last_pair, form_place_of}
use Rattle.line.specs.declared.Line.{Line}
use Rattle.line.specs.declared.Fault.{Fault}
use Rattle.line.specs.declared.Fault.TheVariants.{Char, Pairs, Length, Crc, Form}
use Rattle.line.specs.declared.LineRefusal.{LineRefusal}

-- a line's reading: the good line, or its refusal
abbrev pub LineReading : Type 0
LineReading = Result Line LineRefusal

-- reading at a place: a good line with the place behind it, none where nothing is left, or a refusal
abbrev pub NextLine : Type 0
NextLine = Result (Option (Line × ℕ)) LineRefusal

-- the document's numbers
abbrev pub fault_number : Fault → ℕ
fault_number Char = 2
fault_number Pairs = 3
fault_number Length = 4
fault_number Crc = 5
fault_number Form = 6

-- a line's values are tag, length, address, command, data, CRC
abbrev pub data_of : List ℕ → List ℕ
data_of v = slice 4 (length v - 1) v

-- what the CRC covers: address, command and data
abbrev pub covered_of : List ℕ → List ℕ
covered_of v = slice 2 (length v - 1) v

abbrev pub last_of : List ℕ → ℕ
last_of v = get_or v (length v - 1) 0

unfoldable pub line_of : List ℕ → Line
line_of v =
    record {
      command = get_or v 3 0;
      count = length v - 5;
      bytes = get_or (data_of v) 0 0 ∷ get_or (data_of v) 1 0 ∷ get_or (data_of v) 2 0 ∷ get_or (data_of v) 3 0 ∷ [];
      crc = last_of v;
    }

-- one of the first four data bytes of a good line, zeros behind them
abbrev pub byte : Line → ℕ → ℕ
byte l i = get_or l.bytes i 0

-- the parts of a line that go out are bytes, as every u8 is
pub record IsBytes (l : Line) : Type 0 where
  pub command : l.command < 256
  pub bytes : (i : ℕ) → byte l i < 256

-- a count of digits that no line has
unfoldable pub bad_pairs : ℕ → Bool
bad_pairs d = cond (eqb (d % 2) 0) (cond (ltb d 10) true (ltb 74 d)) true

unfoldable pub some_to32 : ℕ → Bool
some_to32 count = cond (ltb 0 count) (leb count 32) false

-- the table's rows for lines 1 to 4: command and count of data bytes
unfoldable pub head_ok : ℕ → ℕ → ℕ → Bool
head_ok n command count =
    cond (eqb n 1) (cond (eqb command 0xAD) (eqb count 4) false)
    (cond (eqb n 2) (cond (eqb command 0xAE) (eqb count 4) false)
    (cond (eqb n 3) (cond (eqb command 0x01) (some_to32 count) false)
    (cond (eqb command 0x02) (some_to32 count) false)))

-- the rows for lines 5 on
unfoldable pub body_ok : ℕ → ℕ → Bool
body_ok command count =
    cond (eqb command 0xC7) (eqb count 2)
    (cond (eqb command 0xE7) (eqb count 2)
    (cond (eqb command 0xC5) (eqb count 4)
    (cond (eqb command 0xC6) (eqb count 4) false)))

unfoldable pub form_ok : ℕ → ℕ → ℕ → ℕ → ℕ → Bool
form_ok n tag address command count =
    cond (eqb address 0xC0)
    (cond (leb n 4)
    (cond (eqb tag 0x49) (head_ok n command count) false)
    (cond (eqb tag 0) (body_ok command count) false))
    false

-- length counts what follows it
unfoldable pub length_right : List ℕ → Bool
length_right v = eqb (get_or v 1 0 + 2) (length v)

unfoldable pub crc_right : (List ℕ → ℕ) → List ℕ → Bool
crc_right code v = eqb (last_of v) (code (covered_of v))

unfoldable pub form_right : LineNumber → List ℕ → Bool
form_right n v = form_ok n.0 (get_or v 0 0) (get_or v 2 0) (get_or v 3 0) (length v - 5)

-- the last three of the five tests of a line, on its values
unfoldable pub read_values : (List ℕ → ℕ) → LineNumber → List ℕ → LineReading
read_values code n v =
    cond (length_right v)
    (cond (crc_right code v)
    (cond (form_right n v) (Ok (line_of v)) (Err (fault_at Form (form_place_of n v))))
    (Err (fault_at Crc (last_pair v))))
    (Err (fault_at Length 3))

-- the last four, on a text of digits; the place of PAIRS is the digit count plus one
unfoldable pub read_digits : (ℕ → ℕ) → (List ℕ → ℕ) → LineNumber → List ℕ → LineReading
read_digits digit code n t = cond (bad_pairs (length t)) (Err (fault_at Pairs (length t + 1))) (read_values code n (values_of digit t))

-- a line's reading, by the line's number and its text; the place of CHAR is the first bad byte
unfoldable pub read_line : LineNumber → List ℕ → LineReading
read_line n t = cond (all_digits digit_val t) (read_digits digit_val pec n t) (Err (fault_at Char (digit_run digit_val t + 1)))

-- with the place behind the line
unfoldable pub next_by : LineReading → ℕ → NextLine
next_by (Ok l) next = Ok (Some (l, next))
next_by (Err r) next = Err r

-- the first of some lines, if there is one
unfoldable pub next_of : LineNumber → ℕ → List (List ℕ) → NextLine
next_of n next [] = Ok None
next_of n next (l ∷ ls) = next_by (read_line n l) next

-- the reading of the line that starts at a place
abbrev pub next_line : LineNumber → ℕ → List ℕ → NextLine
next_line n at s = next_of n (at + line_skip (drop at s)) (lines_of (drop at s))
