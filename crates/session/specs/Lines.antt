-- Step 3 of document 01: the write lines go out with the address in use and their own PEC, each read at the held place; where what
-- stands there may not go out, the state is refused. Assumes nothing.
use Rattle.std.specs.Prelude.{ℕ, ◌+◌, List, Bool, true, cond, eqb, ltb, Some, None, Ok, Err}
use Rattle.counts.specs.declared.LineNumber.{LineNumber}
use Rattle.counts.specs.Counts.{line_number}
use Rattle.line.specs.declared.Line.{Line}
use Rattle.line.specs.Reading.{next_line, NextLine}
use Rattle.summary.specs.Burn.{is_burn}
use Rattle.guide.specs.Requests.{point_to, line_request}
use Rattle.session.specs.declared.Position.{Position}
use Rattle.session.specs.declared.Session.{Session}
use Rattle.session.specs.declared.Handed.{Handed}
use Rattle.session.specs.declared.Awaited.TheVariants.{LineOut, StatusAt}
use Rattle.session.specs.Moves.{address_of, with_position, with_burned, put_of, bad_of}

unfoldable pub at_line : Position → LineNumber → ℕ → Position
at_line p n place = record { line = n; place = place; config = p.config; polls = p.polls; read = p.read }

-- the line goes out under its number, and the next one stands behind it
unfoldable pub due_put_of : Session → Line → ℕ → LineNumber → Bool → Handed
due_put_of s l next n burned = put_of (with_burned (with_position s (at_line s.position n next)) burned) LineOut (line_request (address_of s) l)

-- line n and no other is the burn, and putting it out is reported from then on
unfoldable pub took_of : Session → Line → ℕ → LineNumber → Handed
took_of s l next n =
    cond (is_burn l)
    (cond (eqb n.0 s.file.lines) (due_put_of s l next n true) (bad_of s))
    (cond (eqb n.0 s.file.lines) (bad_of s) (due_put_of s l next n s.burned))

-- what stands at the held place is to pass 2 to 6 as a write line
unfoldable pub due_of : Session → LineNumber → NextLine → Handed
due_of s n (Ok None) = bad_of s
due_of s n (Ok (Some (l, next))) = took_of s l next n
due_of s n (Err r) = bad_of s

unfoldable pub put_line_of : List ℕ → Session → LineNumber → Handed
put_line_of text s n = due_of s n (next_line n s.position.place text)

-- the line after the one in hand; behind line n comes step 4: write C7 7E 00
unfoldable pub line_done_of : List ℕ → Session → Handed
line_done_of text s =
    cond (ltb s.position.line.0 s.file.lines) (put_line_of text s (line_number (s.position.line.0 + 1)))
    (put_of s StatusAt (point_to (address_of s) 0x7E 0x00))
