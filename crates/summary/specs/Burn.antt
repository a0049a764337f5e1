-- The burn (document 01, "The whole file"). Assumes nothing.
use Rattle.std.specs.Prelude.{Bool, false, cond, eqb}
use Rattle.line.specs.declared.Line.{Line}
use Rattle.line.specs.Reading.{byte}

-- the burn: E7 with 08 00
unfoldable pub is_burn : Line → Bool
is_burn l = cond (eqb l.command 0xE7) (cond (eqb (byte l 0) 0x08) (eqb (byte l 1) 0x00) false) false
