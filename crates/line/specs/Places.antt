-- The place in a line that a refusal is about, counted from 1 (request R-1). Assumes nothing.
use Rattle.std.specs.Prelude.{ℕ, ◌-◌, ◌*◌, Bool, true, cond, List, length, get_or, eqb, leb}
use Rattle.counts.specs.declared.LineNumber.{LineNumber}
use Rattle.counts.specs.Counts.{line_place}
use Rattle.line.specs.declared.Fault.{Fault}
use Rattle.line.specs.declared.LineRefusal.{LineRefusal}

-- a fault at a place of its line
abbrev pub fault_at : Fault → ℕ → LineRefusal
fault_at fault p = record { fault = fault; place = line_place p }

-- the first of the last two digits, of a line with these values: each is two digits
abbrev pub last_pair : List ℕ → ℕ
last_pair v = 2 * length v - 1

-- the tag of the table's rows for a line
unfoldable pub tag_of : ℕ → ℕ
tag_of n = cond (leb n 4) 0x49 0x00

-- the commands of its rows, with any count of data
unfoldable pub command_ok : ℕ → ℕ → Bool
command_ok n command =
    cond (eqb n 1) (eqb command 0xAD)
    (cond (eqb n 2) (eqb command 0xAE)
    (cond (eqb n 3) (eqb command 0x01)
    (cond (leb n 4) (eqb command 0x02)
    (cond (eqb command 0xC7) true (cond (eqb command 0xE7) true (cond (eqb command 0xC5) true (eqb command 0xC6)))))))

-- the first digit of the first field that breaks the table: tag, address, command, and else the count of data
unfoldable pub form_place : ℕ → ℕ → ℕ → ℕ → ℕ
form_place n tag address command =
    cond (eqb tag (tag_of n)) (cond (eqb address 0xC0) (cond (command_ok n command) 9 7) 5) 1

unfoldable pub form_place_of : LineNumber → List ℕ → ℕ
form_place_of n v = form_place n.0 (get_or v 0 0) (get_or v 2 0) (get_or v 3 0)
