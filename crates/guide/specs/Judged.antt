-- The guide's decisions on what the device said, in numbers (document 01, "The session"). Assumes nothing.
use Rattle.std.specs.Prelude.{ℕ, zero, suc, ◌+◌, ◌-◌, ◌*◌, ◌/◌, ◌%◌, ◌^◌, Bool, true, false, cond, eqb, ltb, Option, Some, None, Result, Ok, Err}
use Rattle.counts.specs.declared.Bank.{Bank}
use Rattle.counts.specs.declared.Kind.{Kind}
use Rattle.counts.specs.declared.Kind.TheVariants.{Legacy, Production}
use Rattle.counts.specs.Counts.{config_number, bank_of}
use Rattle.guide.specs.declared.Reason.{Reason}
use Rattle.guide.specs.declared.Reason.TheVariants.{Counter, Identity, Flag, Old, OtherKind, Places}
use Rattle.guide.specs.declared.Target.{Target}
use Rattle.guide.specs.declared.Words.{Words}
use Rattle.guide.specs.declared.Polled.{Polled}
use Rattle.guide.specs.declared.Polled.TheVariants.{Busy, Passed, Failed}

-- ---- step 1: what was read goes back with bit 5 of its first byte cleared
unfoldable pub cleared : ℕ → ℕ
cleared w = w - w / 32 % 2 * 32

-- ---- step 2: 23 to 28

-- the kind wanted: flag 0 and counter under 28 means legacy; flag FFFE0001 or counter 28 means production
unfoldable pub kind_wanted : ℕ → ℕ → Option Kind
kind_wanted counter flag =
    cond (cond (eqb flag 0) (ltb counter 28) false) (Some Legacy)
    (cond (cond (eqb flag 0xFFFE0001) true (eqb counter 28)) (Some Production) None)

unfoldable pub same_kind : Kind → Kind → Bool
same_kind Legacy Legacy = true
same_kind Legacy Production = false
same_kind Production Legacy = false
same_kind Production Production = true

-- what a file asks of its device, where so many places are kept free, and what was read
module _ (target : Target) (kept : ℕ) (read : Words) where
  -- OLD, KIND, PLACES
  unfoldable pub fit_kind : Option Kind → Result (Unit {0}) Reason
  fit_kind None = Err Flag
  fit_kind (Some wanted) =
      cond (ltb (read.revision / 16777216) 6) (Err Old)
      (cond (same_kind target.kind wanted) (cond (ltb read.counter (target.configs + kept)) (Err Places) (Ok tt)) (Err OtherKind))

  -- COUNTER, IDENTITY, FLAG, OLD, KIND, PLACES, in this order, or none of them
  unfoldable pub fit_of : Result (Unit {0}) Reason
  fit_of =
      cond (ltb 28 read.counter) (Err Counter)
      (cond (eqb read.identity target.identity) (fit_kind (kind_wanted read.counter read.flag)) (Err Identity))

-- ---- step 4: bit 0, and then bits 5..0 are to be 000001
unfoldable pub polled_of : ℕ → Polled
polled_of status = cond (eqb (status % 2) 0) Busy (cond (eqb (status % 64) 1) Passed Failed)

-- ---- step 5: bank by bank

unfoldable pub every_below : ℕ → (ℕ → Bool) → Bool
every_below zero test = true
every_below (suc n) test = cond (every_below n test) (test n) false

abbrev pub bank : ℕ → Bank
bank b = record { 0 = b }

-- bank b is bits 4b+3 to 4b
unfoldable pub bank_in : ℕ → Bank → ℕ
bank_in word b = word / 16 ^ b.0 % 16

-- whether a configuration of the file reports in this bank
unfoldable pub reports_in : ℕ → Bank → Bool
reports_in zero b = false
reports_in (suc N) b = cond (eqb (bank_of (config_number N)).0 b.0) true (reports_in N b)

-- 0001 where a configuration reports, 0000 elsewhere
unfoldable pub bank_right : ℕ → ℕ → ℕ → Bool
bank_right k word b = eqb (bank_in word (bank b)) (cond (reports_in k (bank b)) 1 0)

-- all eight banks
unfoldable pub banks_right : ℕ → ℕ → Bool
banks_right k word = every_below 8 (bank_right k word)
