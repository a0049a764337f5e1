-- The guide's table of parts and document 01's sentence on it are the same 29 identities in the same order, and bytes are accepted as an
-- identity exactly where they are one of these (request R-4). No promise cites this page: proofs/ shows each of them. Assumes nothing.
use Rattle.std.specs.Prelude.{◌≡◌, ℕ, ◌<◌}
use mathlib.Core.List.{List, [], ◌∷◌, map, Memᴰ}
use Rattle.summary.specs.Answers.{answer_told}
use Rattle.image.specs.Parts.{identities, parts}
use Rattle.image.specs.Says.{word}
use Rattle.image.specs.Check.{check_of}
use Rattle.image.specs.Meets.{data_in, Accepts29}

-- "Accepted identities (all start 49D2, end 00), middle byte: 81 90 AF ..."
pub record Condensed : Type 0 where
  pub middles :
      parts ≡
      0x81 ∷ 0x90 ∷ 0xAF ∷ 0xAE ∷ 0x8F ∷ 0x8E ∷ 0xB4 ∷ 0xB2 ∷ 0xB3 ∷ 0xB5 ∷ 0xB6 ∷ 0x82 ∷ 0x97 ∷ 0x98 ∷ 0x96 ∷ 0x88 ∷ 0x8A
      ∷ 0x9B ∷ 0x9C ∷ 0x8B ∷ 0x8D ∷ 0xA4 ∷ 0xA2 ∷ 0x9D ∷ 0x7F ∷ 0xB1 ∷ 0x80 ∷ 0x86 ∷ 0x87 ∷ []
  pub whole : identities ≡ map (λ middle. word 0x49 0xD2 middle 0x00) parts

-- the identity that the bytes of line 1 spell, as the guide prints it
abbrev pub identity_in : List ℕ → ℕ
identity_in v = word (data_in 0 v) (data_in 1 v) (data_in 2 v) (data_in 3 v)

-- of the bytes of any line
pub record PrintedExactly (v : List ℕ) : Type 0 where
  pub accepted_printed : Accepts29 v → Memᴰ (identity_in v) identities
  pub printed_accepted : ((i : ℕ) → data_in i v < 256) → Memᴰ (identity_in v) identities → Accepts29 v

-- of any text
unfoldable pub PrintedOnly : List ℕ → Type 0
PrintedOnly s = (answer_told (check_of s).answer).number ≡ 0 → Memᴰ (check_of s).summary.identity identities
