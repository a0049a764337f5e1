-- One answer: any two results that the promise of a public function allows for the same input are equal. tests/check-unique holds each
-- of these to the source. Assumes nothing.
use mathlib.Core.Path.{◌≡◌}
use Prim.Native.Nat.{◌+◌, ◌-◌, ℕ}
use Rattle.counts.specs.declared.Kind.{Kind}
use Rattle.counts.specs.declared.ConfigNumber.{ConfigNumber}
use Rattle.counts.specs.Counts.{bank_of, configs_of, crc_line, crc_place, first_line, identifier_line, kind_of, line_count, step_of}
use Rattle.promise.specs.One.{One}
use Rattle.promise.proofs.Equal.{one_answer}

pub one-Kind-of_revision : (first : ℕ) → One (λ r. r ≡ kind_of first)
one-Kind-of_revision first = one_answer _

pub one-Kind-lines : (self : Kind) (configs : ℕ) → One (λ r. r ≡ line_count self configs)
one-Kind-lines self configs = one_answer _

pub one-Kind-configs : (self : Kind) (lines : ℕ) → One (λ r. r ≡ configs_of self lines)
one-Kind-configs self lines = one_answer _

pub one-Kind-identifier_line : (self : Kind) (config : ConfigNumber) → One (λ r. r ≡ identifier_line self config)
one-Kind-identifier_line self config = one_answer _

pub one-Kind-crc_line : (self : Kind) (config : ConfigNumber) → One (λ r. r ≡ crc_line self config)
one-Kind-crc_line self config = one_answer _

pub one-Kind-lines_to_crc : (self : Kind) → One (λ r. r ≡ crc_place self - 12)
one-Kind-lines_to_crc self = one_answer _

pub one-Kind-lines_behind_crc : (self : Kind) → One (λ r. r ≡ step_of self + 1 - crc_place self)
one-Kind-lines_behind_crc self = one_answer _

pub one-ConfigNumber-bank : (self : ConfigNumber) → One (λ r. r ≡ bank_of self)
one-ConfigNumber-bank self = one_answer _

pub one-LineNumber-first_write : One (λ r. r ≡ first_line)
one-LineNumber-first_write = one_answer _
