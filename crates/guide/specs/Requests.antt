-- The guide's requests (document 01, "The session"): point to a register, read it, read a block, and a line of the file, each for the
-- address that it is given first (document 02, R-2). Assumes nothing.
use Rattle.std.specs.Prelude.{List, [], ◌∷◌, ℕ, take}
use Rattle.line.specs.declared.Line.{Line}
use Rattle.line.specs.Reading.{byte}
use Rattle.bus.specs.declared.Request.{Request}
use Rattle.bus.specs.Bus.{write_of, write_with, read_of}

abbrev pub point_to : ℕ → ℕ → ℕ → Request
point_to address low high = write_of address 0xC7 (low ∷ high ∷ [])

abbrev pub read_data : ℕ → Request
read_data address = read_of address 0xC5 5

abbrev pub read_block : ℕ → ℕ → Request
read_block address command = read_of address command 6

-- the data bytes that a line has
unfoldable pub line_data : Line → List ℕ
line_data l = take l.count (byte l 0 ∷ byte l 1 ∷ byte l 2 ∷ byte l 3 ∷ [])

-- a write line with the address in use and its own PEC. At C0 it is the line as it stands, last byte included (`line_at_C0` of
-- proofs/LineBytes.antt)
unfoldable pub line_request : ℕ → Line → Request
line_request address l = write_of address l.command (line_data l)

-- the same by a lent table, whatever it holds. By one that keeps its rule it is the line's request (`request_right` of
-- proofs/LentTable.antt)
unfoldable pub line_request_with : ℕ → List ℕ → Line → Request
line_request_with address table l = write_with address table l.command (line_data l)
