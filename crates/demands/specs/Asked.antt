-- What was asked, bit by bit and byte by byte: what step 1 wrote back, and the requests of the page that hold nothing of the file (document
-- 01, "The session"). That replies came in form does not say it: proofs/Blind.antt. Assumes nothing.
use Rattle.std.specs.Prelude.{◌≡◌, true, false, List, [], ◌∷◌, ℕ, ◌<◌}
use Rattle.bus.specs.declared.Request.{Request}
use Rattle.bus.specs.Bus.{write_of}
use Rattle.guide.specs.Requests.{point_to, read_data, read_block}
use Rattle.guide.specs.Terms.{Terms}
use Rattle.guide.specs.Plan.{Reply}
use Rattle.guide.specs.Matched.{wrote, got, Heard}
use Rattle.guide.specs.Cleared.{WritesBack}

-- where step 1 is wanted and read w, the third request writes w back with bit 5 clear
unfoldable pub WroteBack : Terms → List Reply → List Request → Type 0
WroteBack T rs out =
    T.wanted ≡ true → (w : ℕ) (left : List Reply) → w < 4294967296
    → Heard (wrote (point_to T.address 0xA2 0x00) ∷ got (read_data T.address) w ∷ []) rs left
    → (q : Request) × (rest : List Request)
    × (out ≡ point_to T.address 0xA2 0x00 ∷ read_data T.address ∷ q ∷ rest) × WritesBack T.address w q

-- ---- the same by bytes

-- a write of two data bytes with its PEC, and a read of so many bytes
abbrev pub writes2 : ℕ → ℕ → ℕ → ℕ → ℕ → Request
writes2 address command a b p = record { bytes = address ∷ command ∷ a ∷ b ∷ p ∷ 0x00 ∷ 0x00 ∷ 0x00 ∷ []; used = 5; reads = false }

abbrev pub asks : ℕ → ℕ → ℕ → ℕ → Request
asks address command again count =
    record { bytes = address ∷ command ∷ again ∷ count ∷ 0x00 ∷ 0x00 ∷ 0x00 ∷ 0x00 ∷ []; used = 4; reads = true }

-- the requests of the page that hold nothing of the file, at C0 as document 01 has them
pub record InBytes : Type 0 where
  pub capture : point_to 0xC0 0xA2 0x00 ≡ writes2 0xC0 0xC7 0xA2 0x00 0x03
  pub apply : write_of 0xC0 0xE7 (0x02 ∷ 0x00 ∷ []) ≡ writes2 0xC0 0xE7 0x02 0x00 0x58
  pub counter : point_to 0xC0 0x35 0x00 ≡ writes2 0xC0 0xC7 0x35 0x00 0x89
  pub flag : point_to 0xC0 0x87 0xBD ≡ writes2 0xC0 0xC7 0x87 0xBD 0xD6
  pub status : point_to 0xC0 0x7E 0x00 ≡ writes2 0xC0 0xC7 0x7E 0x00 0x45
  pub banks : point_to 0xC0 0x7F 0x00 ≡ writes2 0xC0 0xC7 0x7F 0x00 0x50
  pub crc : point_to 0xC0 0x94 0x00 ≡ writes2 0xC0 0xC7 0x94 0x00 0x84
  pub word : read_data 0xC0 ≡ asks 0xC0 0xC5 0xC1 0x05
  pub identity : read_block 0xC0 0xAD ≡ asks 0xC0 0xAD 0xC1 0x06
  pub revision : read_block 0xC0 0xAE ≡ asks 0xC0 0xAE 0xC1 0x06
