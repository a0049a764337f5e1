-- What the private functions of the walk are held to: what it keeps of the lines, the lines read at their places, and the
-- identifier and CRC lines. Nothing public cites this page. Assumes nothing.
use Rattle.std.specs.Prelude.{ℕ, zero, suc, ◌+◌, ◌-◌, Bool, true, false, cond, not, List, [], ◌∷◌, get_or, set, replicate, eqb, Option, Some, None, Result, Ok, Err}
use Rattle.counts.specs.declared.LineNumber.{LineNumber}
use Rattle.counts.specs.declared.ConfigId.{ConfigId}
use Rattle.counts.specs.declared.Kind.{Kind}
use Rattle.counts.specs.Counts.{line_number, config_number, config_id, identifier_line, crc_line}
use Rattle.line.specs.declared.Line.{Line}
use Rattle.cuts.specs.Lines.{place_of}
use Rattle.line.specs.Reading.{LineReading, NextLine, read_line, next_line}
use Rattle.image.specs.declared.Facts.{Facts}
use Rattle.image.specs.declared.Spots.{Spots}
use Rattle.summary.specs.declared.Refusal.{Refusal}
use Rattle.summary.specs.declared.Refusal.TheVariants as refusal
use Rattle.image.specs.Says.{id_of, crc_of, is_c6}
use Rattle.summary.specs.Burn.{is_burn}
use Rattle.image.specs.Tests.{some_below}

-- ---- the pass over the lines

unfoldable pub start : Facts
start = record { lines = 0; early = false; burnt = false }

-- one good line more
unfoldable pub facts_with : Facts → Line → Facts
facts_with f l = record { lines = f.lines + 1; early = cond f.burnt true f.early; burnt = is_burn l }

-- the last line is not the burn, or an earlier one is
unfoldable pub burn_amiss_in : Facts → Bool
burn_amiss_in f = cond f.burnt f.early true

-- the facts of all lines, or the first faulty one's refusal
abbrev pub Walked : Type 0
Walked = Result Facts Refusal

unfoldable pub facts_by : Facts → LineReading → (Facts → Walked) → Walked
facts_by f (Ok l) on = on (facts_with f l)
facts_by f (Err r) on = Err (refusal.Line (line_number (f.lines + 1)) r)

unfoldable pub facts_from : Facts → List (List ℕ) → Walked
facts_from f [] = Ok f
facts_from f (t ∷ ts) = facts_by f (read_line (line_number (f.lines + 1)) t) (λ g. facts_from g ts)

-- a reading's refusal with the line's number
unfoldable pub with_number : LineNumber → NextLine → Result (Option (Line × ℕ)) Refusal
with_number n (Ok found) = Ok found
with_number n (Err r) = Err (refusal.Line n r)

-- ---- lines by their places

abbrev pub no_line : Line
no_line = record { command = 0; count = 0; bytes = replicate 4 0; crc = 0 }

-- the line that was taken
unfoldable pub line_in : NextLine → Line
line_in (Ok None) = no_line
line_in (Ok (Some (l, next))) = l
line_in (Err r) = no_line

-- the line with a number, read at its place
unfoldable pub line_at : LineNumber → List ℕ → Line
line_at n s = line_in (next_line n (place_of (n.0 - 1) s) s)

-- ---- the identifier and CRC lines

unfoldable pub no_spots : Spots
no_spots = record { ids = replicate 8 (config_id 0); crcs = replicate 8 0 }

unfoldable pub off_spot : Line → Line → Bool
off_spot id_line crc_line = cond (is_c6 id_line) (not (is_c6 crc_line)) true

module _ (kind : Kind) (s : List ℕ) where
  abbrev pub id_line_at : ℕ → Line
  id_line_at N = line_at (identifier_line kind (config_number N)) s

  abbrev pub crc_line_at : ℕ → Line
  crc_line_at N = line_at (crc_line kind (config_number N)) s

  -- one of those of configuration N is not C6
  abbrev pub off_at : ℕ → Bool
  off_at N = off_spot (id_line_at N) (crc_line_at N)

  -- one of those of the first k configurations is not
  abbrev pub off_spots : ℕ → Bool
  off_spots k = some_below k off_at

  -- those of configuration N added
  unfoldable pub spots_with : Spots → ℕ → Spots
  spots_with sp N =
      record {
        ids = set sp.ids N (id_of (id_line_at N));
        crcs = set sp.crcs N (crc_of (crc_line_at N));
      }

  -- those of the first k configurations
  unfoldable pub spots_to : ℕ → Spots
  spots_to zero = no_spots
  spots_to (suc N) = spots_with (spots_to N) N

-- ---- equal identifiers

abbrev pub id_at : List ConfigId → ℕ → ℕ
id_at ids i = (get_or ids i (config_id 0)).0

-- that of i among the first j
unfoldable pub same_at : List ConfigId → ℕ → ℕ → Bool
same_at ids i j = some_below j λ m. eqb (id_at ids i) (id_at ids m)

-- two among the first k
unfoldable pub same_in : List ConfigId → ℕ → Bool
same_in ids k = some_below k λ i. same_at ids i i
