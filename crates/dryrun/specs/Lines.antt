-- The lines that a dry run writes. Assumes nothing.
use Rattle.std.specs.Prelude.{ℕ, zero, suc, Bool, true, false, cond, List, [], ◌++◌, ltb, get_or, Option, Some, None}
use Rattle.bus.specs.declared.Request.{Request}
use Rattle.summary.specs.declared.Told.{Told}
use Rattle.text.specs.Text.{bytes_of, line_end, hex, decimal}

unfoldable pub verb : Bool → List ℕ
verb true = bytes_of "read "
verb false = bytes_of "write "

-- a request has eight bytes, also where more are said to be used
unfoldable pub at_most8 : ℕ → ℕ
at_most8 used = cond (ltb used 8) used 8

-- two capital hex digits for each used byte
unfoldable pub used_hex : List ℕ → ℕ → List ℕ
used_hex bs zero = []
used_hex bs (suc i) = used_hex bs i ++ hex 2 (get_or bs i 0)

unfoldable pub request_line : Request → List ℕ
request_line q = verb q.reads ++ used_hex q.bytes (at_most8 q.used) ++ line_end

-- line LINE at PLACE, behind what is told
unfoldable pub told_where : Told → List ℕ
told_where t = bytes_of " line " ++ decimal t.line.0 ++ bytes_of " at " ++ decimal t.place.0 ++ line_end

-- checked NUMBER line LINE at PLACE
unfoldable pub checked_line : Told → List ℕ
checked_line t = bytes_of "checked " ++ decimal t.number ++ told_where t

unfoldable pub report_line : Option Told → List ℕ
report_line None = bytes_of "waiting" ++ line_end
-- verdict NUMBER config N line LINE at PLACE
report_line (Some t) = bytes_of "verdict " ++ decimal t.number ++ bytes_of " config " ++ decimal t.config.0 ++ told_where t

unfoldable pub mark : Bool → List ℕ
mark true = bytes_of "1" ++ line_end
mark false = bytes_of "0" ++ line_end

-- count COUNT burn BURN
unfoldable pub count_line : ℕ → Bool → List ℕ
count_line sent burned = bytes_of "count " ++ decimal sent ++ bytes_of " burn " ++ mark burned
