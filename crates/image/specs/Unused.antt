-- Number 12 is unused. Document 01 gives it, behind COUNT, to a file with an identifier or CRC line past its last line; no text is such a
-- file, and request R-9 takes it out. No promise cites this page: proofs/ shows each of these. Assumes nothing.
use Rattle.std.specs.Prelude.{◌≡◌, List, ℕ, ◌+◌, ◌*◌, ◌≤◌, ◌<◌, length}
use Rattle.counts.specs.declared.Kind.{Kind}
use Rattle.counts.specs.Counts.{config_number, identifier_line, crc_line}
use Rattle.summary.specs.Answers.{answer_told}
use Rattle.image.specs.Says.{file_kind, file_configs}
use Rattle.image.specs.Check.{check_of}
use Rattle.image.specs.Meets.{KindHas}

-- by the page's own figures: for each kind's step s and CRC place c, s x N + 12 and s x N + c are at most n = 12 + s x k
unfoldable pub InsideByFigures : Type 0
InsideByFigures =
    (b : ℕ) (kind : Kind) (step place : ℕ) → KindHas b kind step place → (k N : ℕ) → N < k →
    (step * N + 12 ≤ 12 + step * k) × (step * N + place ≤ 12 + step * k)

-- so it is of any lines: both lines of each configuration that they are found to have are among them
pub record NoneBeyond (ls : List (List ℕ)) : Type 0 where
  pub id : (N : ℕ) → N < file_configs ls → (identifier_line (file_kind ls) (config_number N)).0 ≤ length ls
  pub crc : (N : ℕ) → N < file_configs ls → (crc_line (file_kind ls) (config_number N)).0 ≤ length ls

-- and no text has the number
unfoldable pub Unused12 : List ℕ → Type 0
Unused12 s = (answer_told (check_of s).answer).number ≡ 12 → ⊥
