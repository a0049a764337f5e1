-- The table of document 01, "The session", for what is judged at one reply: each row by what its number means, on the bytes of the reply
-- and the values that were read. A row gives its number and N; the numbers are tried in their order, which `First` of promise says.
-- What 29 to 31 and DONE mean stands in Course.antt, with what was read before. Assumes nothing.
use Rattle.std.specs.Prelude.{◌≡◌, ◌⊎◌, ℕ, ◌+◌, ◌/◌, ◌<◌}
use Rattle.counts.specs.declared.Kind.{Kind}
use Rattle.bus.specs.declared.Request.{Request}
use Rattle.bus.specs.InForm.{WrongShape, WrongPec}
use Rattle.guide.specs.declared.Target.{Target}
use Rattle.guide.specs.declared.Words.{Words}
use Rattle.guide.specs.Plan.{Reply}
use Rattle.guide.specs.Matched.{Wants}

-- of a reply to a request
pub data ReplyTable (q : Request) (r : Reply) : ℕ → ℕ → Type 0 where
  -- kind 0 (its bytes are not looked at)
  NACK : r.kind ≡ 0 → ReplyTable q r 20 0
  -- kind above 1, wrong byte count, block count not 4
  SHAPE : (1 < r.kind) ⊎ WrongShape q r.bytes → ReplyTable q r 21 0
  -- reply PEC wrong
  PEC : WrongPec q r.bytes → ReplyTable q r 22 0

-- of what step 2 read, after the AE reply: what a file asks of its device, and the places that are kept free
pub data FitTable (target : Target) (kept : ℕ) (read : Words) : ℕ → ℕ → Type 0 where
  -- counter above 28
  COUNTER : 28 < read.counter → FitTable target kept read 23 0
  -- differs from the file's
  IDENTITY : (read.identity ≡ target.identity → ⊥) → FitTable target kept read 24 0
  -- neither kind is wanted
  FLAG : ((kind : Kind) → Wants read.counter read.flag kind → ⊥) → FitTable target kept read 25 0
  -- device revision's high byte under 06
  OLD : read.revision / 16777216 < 6 → FitTable target kept read 26 0
  -- file is not of the kind wanted
  KIND : (kind : Kind) → Wants read.counter read.flag kind → (target.kind ≡ kind → ⊥) → FitTable target kept read 27 0
  -- k is more than the counter, less the places kept free
  PLACES : read.counter < target.configs + kept → FitTable target kept read 28 0
