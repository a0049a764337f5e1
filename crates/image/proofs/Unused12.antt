-- Why number 12 is unused, and that no text has it. Assumes nothing.
use Rattle.std.specs.Prelude.{Ok, Err}
use mathlib.Core.Path.{◌≡◌}
use mathlib.Core.List.{List}
use Prim.Native.Nat.{ℕ, ◌<◌}
use native.Mathlib.Omega.{arith}
use lib.ListN.{length}
use Rattle.counts.specs.Counts.{line_count}
use Rattle.summary.specs.Answers.{FileAnswer, answer_told}
use Rattle.summary.proofs.Numbers.{refusal_number}
use Rattle.image.specs.Says.{file_kind, file_configs}
use Rattle.image.specs.Check.{check_of}
use Rattle.image.specs.Meets.{legacy0, legacy1, production6, production7}
use Rattle.image.specs.Unused.{InsideByFigures, NoneBeyond, Unused12}
use Rattle.image.proofs.Counting.{count_is, id_within, crc_within}

pub inside_by_figures : InsideByFigures
unfolding InsideByFigures
inside_by_figures b kind step place legacy0 k N h = (omega arith, omega arith)
inside_by_figures b kind step place legacy1 k N h = (omega arith, omega arith)
inside_by_figures b kind step place production6 k N h = (omega arith, omega arith)
inside_by_figures b kind step place production7 k N h = (omega arith, omega arith)

pub none_beyond : (ls : List (List ℕ)) → NoneBeyond ls
unfolding file_configs
none_beyond ls = record { id = λ N h. id_within (file_kind ls) (fits h) h; crc = λ N h. crc_within (file_kind ls) (fits h) h }
  where
    fits : {N : ℕ} → N < file_configs ls → length ls ≡ line_count (file_kind ls) (file_configs ls)
    fits h = (count_is (file_kind ls) (length ls) (omega arith)).0

no_answer : (a : FileAnswer) → (answer_told a).number ≡ 12 → ⊥
no_answer (Ok tt) e = omega arith
no_answer (Err r) e = (refusal_number r).not12 e

pub unused_12 : (s : List ℕ) → Unused12 s
unfolding Unused12
unused_12 s = no_answer (check_of s).answer
