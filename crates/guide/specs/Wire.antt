-- What is on the wire for a line of the file, by the line's values, and for the burn: with the address in use (document 02, R-2), and as
-- document 01 has it, which is the same at C0 (proofs/LineBytes.antt). Assumes nothing.
use Rattle.std.specs.Prelude.{◌≡◌, false, List, [], ◌∷◌, ◌++◌, ℕ, ◌-◌, ◌≤◌, length, take, drop, Ok}
use Rattle.pec.specs.Pec.{pec}
use Rattle.counts.specs.declared.LineNumber.{LineNumber}
use Rattle.line.specs.declared.Line.{Line}
use Rattle.line.specs.Digits.{digit_val, values_of}
use Rattle.line.specs.Reading.{read_line}
use Rattle.line.specs.LineForm.{LineForm}
use Rattle.bus.specs.declared.Request.{Request}
use Rattle.bus.specs.Bus.{eight, write_of}
use Rattle.guide.specs.Requests.{line_request}

pub record Wire : Type 0 where
  pub line : List ℕ → Request
  pub burn : Request

-- ---- with the address in use

-- the address in use, the line's command and data, and their PEC; its tag, length and address stay behind, and its last byte
abbrev pub addressed : ℕ → List ℕ → Request
addressed address v =
    let body = address ∷ take (length v - 4) (drop 3 v) in
    record { bytes = eight (body ++ (pec body ∷ [])); used = length v - 2; reads = false }

-- E7 08 00 behind the address in use, and their PEC
abbrev pub burn_to : ℕ → Request
burn_to address =
    let p = pec (address ∷ 0xE7 ∷ 0x08 ∷ 0x00 ∷ []) in
    record { bytes = address ∷ 0xE7 ∷ 0x08 ∷ 0x00 ∷ p ∷ 0x00 ∷ 0x00 ∷ 0x00 ∷ []; used = 5; reads = false }

abbrev pub in_use : ℕ → Wire
in_use address = record { line = addressed address; burn = burn_to address }

-- ---- as document 01 has it

-- a line goes out as it stands, from its address to its CRC
abbrev pub as_it_stands : List ℕ → Request
as_it_stands v = record { bytes = eight (drop 2 v); used = length v - 2; reads = false }

-- C0 E7 08 00 DA
abbrev pub burn : Request
burn = record { bytes = 0xC0 ∷ 0xE7 ∷ 0x08 ∷ 0x00 ∷ 0xDA ∷ 0x00 ∷ 0x00 ∷ 0x00 ∷ []; used = 5; reads = false }

abbrev pub as_they_stand : Wire
as_they_stand = record { line = as_it_stands; burn = burn }

-- ---- what ties them to the requests

-- for every line in form it is the write of the line's command and data to this address, and the burn is that of E7 08 00
pub record RightAt (address : ℕ) (W : Wire) : Type 0 where
  pub line : (n : ℕ) (v : List ℕ) (f : LineForm n v) → W.line v ≡ write_of address f.command f.content
  pub burn : W.burn ≡ write_of address 0xE7 (0x08 ∷ 0x00 ∷ [])

-- for every write line that reads, its request for this address is what is on the wire
unfoldable pub ReadsAs : ℕ → Wire → Type 0
ReadsAs address W =
    (n : LineNumber) (t : List ℕ) (l : Line) → 5 ≤ n.0 → read_line n t ≡ Ok l → line_request address l ≡ W.line (values_of digit_val t)
