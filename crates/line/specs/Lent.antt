-- Reading at a place by lent tables: the run of digits is cut off, and what follows it must end the line. By tables that keep
-- their rules it is the line's reading (proofs/LentIsRight.antt, `lent_right`). Assumes nothing.
use Rattle.std.specs.Prelude.{ℕ, ◌+◌, cond, List, [], ◌∷◌, length, get_or, take, drop, eqb, ltb, Option, Some, None, Ok, Err}
use Rattle.pec.specs.Lent.{run_with}
use Rattle.counts.specs.declared.LineNumber.{LineNumber}
use Rattle.cuts.specs.Lines.{cr_lf}
use Rattle.line.specs.Digits.{digit_by, digit_run}
use Rattle.line.specs.Places.{fault_at}
use Rattle.line.specs.Reading.{LineReading, NextLine, read_digits, next_by}
use Rattle.line.specs.declared.Fault.TheVariants.{Char}

-- what stands at the place e: the end of a line, with the place behind it, or something else
unfoldable pub ending_of : ℕ → List ℕ → Option ℕ
ending_of e [] = Some e
ending_of e (b ∷ s) = cond (eqb b 10) (Some (e + 1)) (cond (cr_lf b (get_or s 0 0)) (Some (e + 2)) None)

module _ (digits table : List ℕ) (n : LineNumber) where
  abbrev pub read_by : List ℕ → LineReading
  read_by t = read_digits (digit_by digits) (run_with table 0) n t

  -- behind these digits the line ends, or the first byte that is no digit stands
  unfoldable pub by_ending : List ℕ → Option ℕ → NextLine
  by_ending t None = Err (fault_at Char (length t + 1))
  by_ending t (Some next) = next_by (read_by t) next

  abbrev pub run_at : ℕ → List ℕ → ℕ
  run_at at s = digit_run (digit_by digits) (drop at s)

  unfoldable pub lent_next : ℕ → List ℕ → NextLine
  lent_next at s =
      cond (ltb at (length s))
      (by_ending (take (run_at at s) (drop at s)) (ending_of (at + run_at at s) (drop (at + run_at at s) s)))
      (Ok None)
