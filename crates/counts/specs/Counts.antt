-- The file's own formulas between its counts (document 01, "The whole file"). Assumes nothing.
use Rattle.std.specs.Prelude.{ℕ, ◌+◌, ◌*◌, ◌/◌, ◌%◌, cond, eqb, ltb, leb, Option, Some, None}
use Rattle.counts.specs.declared.LineNumber.{LineNumber}
use Rattle.counts.specs.declared.Place.{Place}
use Rattle.counts.specs.declared.ConfigNumber.{ConfigNumber}
use Rattle.counts.specs.declared.ConfigId.{ConfigId}
use Rattle.counts.specs.declared.Bank.{Bank}
use Rattle.counts.specs.declared.Kind.{Kind}
use Rattle.counts.specs.declared.Kind.TheVariants.{Legacy, Production}

-- numbers as counts, where a number is meant as one
abbrev pub line_number : ℕ → LineNumber
line_number n = record { 0 = n }

abbrev pub line_place : ℕ → Place
line_place p = record { 0 = p }

abbrev pub config_number : ℕ → ConfigNumber
config_number N = record { 0 = N }

abbrev pub config_id : ℕ → ConfigId
config_id i = record { 0 = i }

-- the step s: the lines that each configuration takes
abbrev pub step_of : Kind → ℕ
step_of Legacy = 337
step_of Production = 363

-- the CRC place c: the CRC line of configuration 0
abbrev pub crc_place : Kind → ℕ
crc_place Legacy = 276
crc_place Production = 290

-- the revision's first byte: 00 or 01 legacy, 06 or 07 production
unfoldable pub kind_of : ℕ → Option Kind
kind_of first =
    cond (ltb first 2) (Some Legacy)
    (cond (eqb first 6) (Some Production) (cond (eqb first 7) (Some Production) None))

-- n = 12 + s x k
abbrev pub line_count : Kind → ℕ → ℕ
line_count kind k = 12 + step_of kind * k

-- at most 8 configurations, since the bank register shows eight
abbrev pub up_to8 : ℕ → ℕ
up_to8 k = cond (leb k 8) k 0

-- the k from 1 to 8 with n = 12 + s x k, and 0 where there is none
unfoldable pub configs_of : Kind → ℕ → ℕ
configs_of kind n = cond (eqb (n % step_of kind) 12) (up_to8 (n / step_of kind)) 0

-- the identifier line of configuration N is s x N + 12
abbrev pub identifier_line : Kind → ConfigNumber → LineNumber
identifier_line kind N = line_number (step_of kind * N.0 + 12)

-- the CRC line of configuration N is s x N + c
abbrev pub crc_line : Kind → ConfigNumber → LineNumber
crc_line kind N = line_number (step_of kind * N.0 + crc_place kind)

-- configuration N reports in bank N
abbrev pub bank_of : ConfigNumber → Bank
bank_of N = record { 0 = N.0 }

-- lines 1 to 4 are the header; write lines are 5 to n
abbrev pub first_line : LineNumber
first_line = line_number 5
