-- Replies one behind the other, each a kind byte, a length byte and the bytes. Assumes nothing.
use Rattle.std.specs.Prelude.{ℕ, zero, suc, ◌+◌, ◌-◌, Bool, true, false, cond, List, ltb, leb, length, take, drop, get_or, Option, Some, None, Result, Ok, Err}
use Rattle.tape.specs.declared.Reply.{Reply}
use Rattle.tape.specs.declared.CutShort.{CutShort}

abbrev pub byte : List ℕ → ℕ → ℕ
byte s i = get_or s i 0

-- the bytes from one place to another
abbrev pub between : List ℕ → ℕ → ℕ → List ℕ
between s start end = take (end - start) (drop start s)

-- only a part of a reply stands there
abbrev pub part : Result (Option Reply) CutShort
part = Err (record {})

unfoldable pub found_at : List ℕ → ℕ → Result (Option Reply) CutShort
found_at s at =
    cond (leb (length s) at) (Ok None)
    (cond (ltb (length s - at) 2) part
    (cond (ltb (length s - at - 2) (byte s (at + 1))) part
    (Ok (Some (record { kind = byte s at; start = at + 2; end = at + 2 + byte s (at + 1) })))))

-- the replies from a place on are whole, so many of them at most: none is cut at the end of the input
unfoldable pub whole_by : Result (Option Reply) CutShort → (ℕ → Bool) → Bool
whole_by (Ok None) from = true
whole_by (Ok (Some reply)) from = from reply.end
whole_by (Err cut) from = false

unfoldable pub whole_replies : ℕ → List ℕ → ℕ → Bool
whole_replies zero s at = true
whole_replies (suc most) s at = whole_by (found_at s at) (whole_replies most s)
