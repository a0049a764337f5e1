-- What is told of each answer to a file, in the document's numbers (document 01, "Numbers for a file"), and the summary of a refused one.
-- Assumes nothing.
use Rattle.std.specs.Prelude.{ℕ, replicate, Result, Ok, Err}
use Rattle.counts.specs.declared.LineNumber.{LineNumber}
use Rattle.counts.specs.declared.Place.{Place}
use Rattle.counts.specs.declared.ConfigNumber.{ConfigNumber}
use Rattle.counts.specs.declared.Kind.TheVariants.{Legacy}
use Rattle.counts.specs.Counts.{line_number, line_place, config_number, config_id}
use Rattle.line.specs.Reading.{fault_number}
use Rattle.summary.specs.declared.Whole.{Whole}
use Rattle.summary.specs.declared.Whole.TheVariants.{Size, Count, Revision, Device, Burn, Spot, Same}
use Rattle.summary.specs.declared.Refusal.{Refusal}
use Rattle.summary.specs.declared.Refusal.TheVariants as refusal
use Rattle.summary.specs.declared.Told.{Told}
use Rattle.summary.specs.declared.Summary.{Summary}

-- accepted, or refused
abbrev pub FileAnswer : Type 0
FileAnswer = Result (Unit {0}) Refusal

abbrev pub told : ℕ → LineNumber → Place → ConfigNumber → Told
told number line place config = record { number = number; line = line; place = place; config = config }

-- no line, no place and no N: all are 0
abbrev pub plain : ℕ → Told
plain number = told number (line_number 0) (line_place 0) (config_number 0)

-- 12 is unused (request R-9)
abbrev pub whole_number : Whole → ℕ
whole_number Size = 1
whole_number Count = 7
whole_number Revision = 8
whole_number Device = 9
whole_number Burn = 10
whole_number Spot = 11
whole_number Same = 13

-- line and place are 0 for 1 and from 7 on
abbrev pub refusal_told : Refusal → Told
refusal_told (refusal.Line n r) = told (fault_number r.fault) n r.place (config_number 0)
refusal_told (refusal.Whole w) = plain (whole_number w)

-- 0 if accepted
abbrev pub answer_told : FileAnswer → Told
answer_told (Ok tt) = plain 0
answer_told (Err r) = refusal_told r

-- a refused file says nothing
unfoldable pub no_summary : Summary
no_summary = record { kind = Legacy; identity = 0; lines = 0; configs = 0; line5 = 0; ids = replicate 8 (config_id 0); crcs = replicate 8 0 }
