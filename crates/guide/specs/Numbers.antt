-- What is told of each verdict, in document 01's numbers ("The session", its table). Assumes nothing.
use Rattle.std.specs.Prelude.{ℕ}
use Rattle.counts.specs.Counts.{line_number, line_place}
use Rattle.summary.specs.declared.Told.{Told}
use Rattle.summary.specs.Answers.{told, plain, refusal_told}
use Rattle.guide.specs.declared.Reason.{Reason}
use Rattle.guide.specs.declared.Reason.TheVariants.{Nack, Shape, Pec, Counter, Identity, Flag, Old, OtherKind, Places, Program, Banks}
use Rattle.guide.specs.declared.Verdict.{Verdict}
use Rattle.guide.specs.declared.Verdict.TheVariants.{Done, Setting, File, Mismatch, Halted, State}

abbrev pub reason_number : Reason → ℕ
reason_number Nack = 20
reason_number Shape = 21
reason_number Pec = 22
reason_number Counter = 23
reason_number Identity = 24
reason_number Flag = 25
reason_number Old = 26
reason_number OtherKind = 27
reason_number Places = 28
reason_number Program = 29
reason_number Banks = 30

-- a refused file's line and place; N is 0 unless the verdict is 31
abbrev pub verdict_told : Verdict → Told
verdict_told Done = plain 0
verdict_told Setting = plain 14
verdict_told (File r) = refusal_told r
verdict_told (Mismatch N) = told 31 (line_number 0) (line_place 0) N
verdict_told (Halted r) = plain (reason_number r)
verdict_told State = plain 15
