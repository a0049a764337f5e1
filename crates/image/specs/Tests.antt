-- The tests of the whole file, each true where its number is given (document 01, "Numbers for a file"). Assumes nothing.
use Rattle.std.specs.Prelude.{ℕ, zero, suc, ◌+◌, ◌-◌, Bool, true, false, cond, not, List, eqb, ltb, length, Option, Some, None}
use Rattle.promise.specs.Lists.{is_in}
use Rattle.counts.specs.declared.Kind.{Kind}
use Rattle.counts.specs.Counts.{line_number}
use Rattle.line.specs.declared.Line.{Line}
use Rattle.line.specs.Reading.{byte}
use Rattle.image.specs.Says.{id_of, is_c6, line_no, revision_says, file_configs, id_line, config_crc_line}
use Rattle.summary.specs.Burn.{is_burn}
use Rattle.image.specs.Parts.{parts}

-- a number under k for which the test is true
unfoldable pub some_below : ℕ → (ℕ → Bool) → Bool
some_below zero test = false
some_below (suc k) test = cond (some_below k test) true (test k)

-- 49D2, the middle byte of one of the parts, 00
unfoldable pub known_device : Line → Bool
known_device l =
    cond (eqb (byte l 0) 0x49) (cond (eqb (byte l 1) 0xD2) (cond (eqb (byte l 3) 0x00) (is_in (byte l 2) parts) false) false) false

unfoldable pub is_unknown : Option Kind → Bool
is_unknown (Some kind) = false
is_unknown None = true

-- SIZE: more than 65,536 bytes
unfoldable pub too_long : List ℕ → Bool
too_long s = ltb 65536 (length s)

module _ (ls : List (List ℕ)) where
  -- COUNT: under 13 lines
  unfoldable pub too_few : Bool
  too_few = ltb (length ls) 13

  -- REVISION: first byte not 00, 01, 06, 07
  unfoldable pub other_revision : Bool
  other_revision = is_unknown (revision_says ls)

  -- DEVICE: identity not among the 29
  unfoldable pub other_device : Bool
  other_device = not (known_device (line_no ls (line_number 1)))

  -- COUNT: n fits no k from 1 to 8
  unfoldable pub fits_none : Bool
  fits_none = eqb (file_configs ls) 0

  -- whether the i-th line, counted from 0, is the burn
  unfoldable pub burn_at : ℕ → Bool
  burn_at i = is_burn (line_no ls (line_number (i + 1)))

  -- BURN: the last line is not the burn, or an earlier one is
  unfoldable pub burn_amiss : Bool
  burn_amiss = cond (burn_at (length ls - 1)) (some_below (length ls - 1) burn_at) true

  -- SPOT: an identifier or CRC line is not C6
  unfoldable pub other_spot : Bool
  other_spot = some_below (file_configs ls) λ N. cond (is_c6 (id_line ls N)) (not (is_c6 (config_crc_line ls N))) true

  -- SAME: two identifiers are equal
  unfoldable pub same_ids : Bool
  same_ids = some_below (file_configs ls) λ i. some_below i λ j. eqb (id_of (id_line ls i)).0 (id_of (id_line ls j)).0
