-- What step 1 writes back, said of the request and bit by bit (document 01, "The session", step 1). Assumes nothing.
use Rattle.std.specs.Prelude.{◌≡◌, false, [], ◌∷◌, ℕ, ◌/◌, ◌%◌, take}
use Rattle.bus.specs.declared.Request.{Request}
use Rattle.bus.specs.InForm.{spelled}

-- a write of C5 to this address with four bytes, lowest first, that spell the word w with bit 5 clear and the other 31 bits as they were
pub record WritesBack (address w : ℕ) (q : Request) : Type 0 where
  pub a : ℕ
  pub b : ℕ
  pub c : ℕ
  pub d : ℕ
  pub bytes : take 6 q.bytes ≡ address ∷ 0xC5 ∷ a ∷ b ∷ c ∷ d ∷ []
  -- with the PEC behind them
  pub used : q.used ≡ 7
  pub writes : q.reads ≡ false
  pub bit5 : spelled a b c d / 32 % 2 ≡ 0
  -- bits 4 to 0, and those above bit 5
  pub below : spelled a b c d % 32 ≡ w % 32
  pub above : spelled a b c d / 64 ≡ w / 64
