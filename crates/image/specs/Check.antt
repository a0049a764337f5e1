-- The answer for a whole file: the first fault in a written list of tests, in the order of document 01, "Numbers for a file".
-- Assumes nothing.
use Rattle.std.specs.Prelude.{ℕ, ◌+◌, Bool, true, false, List, [], ◌∷◌, ◌++◌, Ok, Err}
use Rattle.counts.specs.declared.LineNumber.{LineNumber}
use Rattle.counts.specs.Counts.{line_number}
use Rattle.cuts.specs.Lines.{lines_of}
use Rattle.line.specs.Reading.{LineReading, read_line}
use Rattle.summary.specs.declared.Whole.{Whole}
use Rattle.summary.specs.declared.Whole.TheVariants.{Size, Count, Revision, Device, Burn, Spot, Same}
use Rattle.summary.specs.declared.Refusal.{Refusal}
use Rattle.summary.specs.declared.Refusal.TheVariants as refusal
use Rattle.summary.specs.declared.Checked.{Checked}
use Rattle.image.specs.Says.{summary_of}
use Rattle.summary.specs.Answers.{FileAnswer, no_summary}
use Rattle.image.specs.Tests.{too_long, too_few, other_revision, other_device, fits_none, burn_amiss, other_spot, same_ids}

-- ---- the order

unfoldable pub refused_if : Bool → Whole → FileAnswer
refused_if true w = Err (refusal.Whole w)
refused_if false w = Ok tt

unfoldable pub first_refusal : List FileAnswer → FileAnswer
first_refusal [] = Ok tt
first_refusal ((Ok tt) ∷ more) = first_refusal more
first_refusal (Err r ∷ more) = Err r

-- a line's own answer, 2 to 6
unfoldable pub line_answer : LineNumber → LineReading → FileAnswer
line_answer n (Ok l) = Ok tt
line_answer n (Err r) = Err (refusal.Line n r)

-- those of all lines, the first of which has the number n
unfoldable pub line_answers : ℕ → List (List ℕ) → List FileAnswer
line_answers n [] = []
line_answers n (t ∷ ts) = line_answer (line_number n) (read_line (line_number n) t) ∷ line_answers (n + 1) ts

-- 7 for under 13 lines, 8, 9, 7 for n, 10, 11, 13; 12 is unused (request R-9)
unfoldable pub whole_answers : List (List ℕ) → List FileAnswer
whole_answers ls =
    refused_if (too_few ls) Count ∷ refused_if (other_revision ls) Revision ∷ refused_if (other_device ls) Device
    ∷ refused_if (fits_none ls) Count ∷ refused_if (burn_amiss ls) Burn ∷ refused_if (other_spot ls) Spot
    ∷ refused_if (same_ids ls) Same ∷ []

-- 1; then the first faulty line, and in it 2 to 6; then the whole file's
unfoldable pub answer_of : List ℕ → FileAnswer
answer_of s = first_refusal (refused_if (too_long s) Size ∷ (line_answers 1 (lines_of s) ++ whole_answers (lines_of s)))

abbrev pub refused_by : Refusal → Checked
refused_by r = record { answer = Err r; summary = no_summary }

unfoldable pub checked_as : List ℕ → FileAnswer → Checked
checked_as s (Ok tt) = record { answer = (Ok tt); summary = summary_of s }
checked_as s (Err r) = refused_by r

unfoldable pub check_of : List ℕ → Checked
check_of s = checked_as s (answer_of s)
