-- The twelve worked examples of document 01 ("Twelve examples for the proof, others for the run") in one table, and what it is
-- that holds of each. Assumes nothing.
use Rattle.std.specs.Prelude.{◌≡◌, List, [], ◌∷◌, ◌++◌, ℕ, Ok, Err}
use Prim.Native.String.{String}
use Rattle.text.specs.Text.{bytes_of}
use Rattle.counts.specs.Counts.{line_number}
use Rattle.line.specs.declared.Line.{Line}
use Rattle.line.specs.declared.LineRefusal.{LineRefusal}
use Rattle.line.specs.Reading.{fault_number, read_line}
use Rattle.image.specs.Says.{crc_of}
use Rattle.bus.specs.declared.Request.{Request}
use Rattle.bus.specs.declared.Misreply.TheVariants.{Miscoded}
use Rattle.guide.specs.Requests.{read_data, read_block}
use Rattle.bus.specs.ReplyForm.{form_of}

pub data Example : Type 0 where
  -- as line n, the text is good and says this
  good : (n : ℕ) → String → Line → Example
  -- and its data bytes are this configuration CRC
  tells : (n : ℕ) → String → Line → (crc : ℕ) → Example
  -- as line n, the text has this number, at this place
  refused : (n : ℕ) → String → (number place : ℕ) → Example
  -- the reply to this request, done, with these bytes and then this PEC, is in form with this word
  coded : Request → List ℕ → (p w : ℕ) → Example

unfoldable pub ExampleHolds : Example → Type 0
ExampleHolds (good n text l) = read_line (line_number n) (bytes_of text) ≡ Ok l
ExampleHolds (tells n text l crc) = (read_line (line_number n) (bytes_of text) ≡ Ok l) × (crc_of l ≡ crc)
ExampleHolds (refused n text number place) =
    (r : LineRefusal) × (read_line (line_number n) (bytes_of text) ≡ Err r) × (fault_number r.fault ≡ number) × (r.place.0 ≡ place)
-- and with another last byte it is not: the PEC is this one
ExampleHolds (coded q bs p w) = (form_of q 1 (bs ++ (p ∷ [])) ≡ Ok w) × ((x : ℕ) → (x ≡ p → ⊥) → form_of q 1 (bs ++ (x ∷ [])) ≡ Err Miscoded)

-- command, data and CRC of a line with two data bytes, and with four
abbrev two : ℕ → ℕ → ℕ → ℕ → Line
two command a b crc = record { command = command; count = 2; bytes = a ∷ b ∷ 0 ∷ 0 ∷ []; crc = crc }

abbrev four : ℕ → ℕ → ℕ → ℕ → ℕ → ℕ → Line
four command a b c d crc = record { command = command; count = 4; bytes = a ∷ b ∷ c ∷ d ∷ []; crc = crc }

abbrev pub twelve : List Example
twelve =
    good 1 "4907C0AD49D28100FA" (four 0xAD 0x49 0xD2 0x81 0x00 0xFA)
    ∷ good 2 "4907C0AE060000004F" (four 0xAE 0x06 0x00 0x00 0x00 0x4F)
    ∷ good 5 "0005C0C77E0045" (two 0xC7 0x7E 0x00 0x45)
    ∷ good 5 "0007C0C50000000028" (four 0xC5 0x00 0x00 0x00 0x00 0x28)
    ∷ tells 5 "0007C0C68298CDE0C1" (four 0xC6 0x82 0x98 0xCD 0xE0 0xC1) 0xE0CD9882
    ∷ good 5 "0005C0E70800DA" (two 0xE7 0x08 0x00 0xDA)
    -- CRC, LENGTH, PAIRS; the places are request R-1's
    ∷ refused 5 "0005C0C77E0044" 5 13
    ∷ refused 5 "0006C0C77E0045" 4 3
    ∷ refused 5 "" 3 1
    -- 25 digits
    ∷ refused 3 "490AC001352E342E3233334C9" 3 26
    -- the counter and the identity
    ∷ coded (read_data 0xC0) (0x1C ∷ 0x00 ∷ 0x00 ∷ 0x00 ∷ []) 0x6A 28
    ∷ coded (read_block 0xC0 0xAD) (0x04 ∷ 0x00 ∷ 0x81 ∷ 0xD2 ∷ 0x49 ∷ []) 0x3C 0x49D28100
    ∷ []

unfoldable pub AllHold : List Example → Type 0
AllHold [] = Unit {0}
AllHold (e ∷ es) = ExampleHolds e × AllHold es
