-- The lines that a text holds, one behind the other, and what a session needs of an accepted file. Assumes nothing.
use Rattle.std.specs.Prelude.{Some, None, Ok}
use mathlib.Core.Path.{◌≡◌}
use mathlib.Core.Bool.{true, false}
use mathlib.Core.List.{List, [], ◌∷◌}
use Prim.Native.Nat.{ℕ, ◌+◌, ◌≤◌, ◌<◌}
use lib.ListN.{get_or}
use Rattle.counts.specs.Counts.{line_number, config_id, line_count}
use Rattle.line.specs.declared.Line.{Line}
use Rattle.line.specs.Reading.{next_line}
use Rattle.summary.specs.declared.Summary.{Summary}
use Rattle.summary.specs.Burn.{is_burn}

-- from this place, where line n starts, to its end the text holds these lines
unfoldable pub Holds : List ℕ → ℕ → ℕ → List Line → Type 0
Holds s place n [] = next_line (line_number n) place s ≡ Ok None
Holds s place n (l ∷ ls) = (next : ℕ) × (next_line (line_number n) place s ≡ Ok (Some (l, next))) × Holds s next (n + 1) ls

-- the last of these lines is the burn, and no other
unfoldable pub BurnLast : List Line → Type 0
BurnLast [] = ⊥
BurnLast (l ∷ []) = is_burn l ≡ true
BurnLast (l ∷ m ∷ ls) = (is_burn l ≡ false) × BurnLast (m ∷ ls)

-- the counts of an accepted file
pub record Sound (summary : Summary) : Type 0 where
  pub some : 1 ≤ summary.configs
  pub few : summary.configs ≤ 8
  pub count : summary.lines ≡ line_count summary.kind summary.configs
  pub ids : (N : ℕ) → N < summary.configs → (get_or summary.ids N (config_id 0)).0 ≤ 15
