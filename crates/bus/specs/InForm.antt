-- What a reply is found to be, said by the bytes themselves, beside the definition `form_of`: with no test of it and no part of a
-- list. Document 01, "The session": what replies hold, and 20, 21 and 22 of its table. Assumes nothing.
use Rattle.std.specs.Prelude.{◌≡◌, ◌↔◌, ◌⊎◌, List, [], ◌∷◌, ℕ, ◌+◌, ◌*◌, ◌<◌, length, Result, Ok, Err}
use Rattle.bus.specs.declared.Request.{Request}
use Rattle.bus.specs.declared.Misreply.{Misreply}
use Rattle.bus.specs.declared.Misreply.TheVariants.{Unanswered, Misshapen, Miscoded}
use Rattle.bus.specs.Bus.{framed, read_address, read_of}
use Rattle.bus.specs.ReplyForm.{form_of}
use Rattle.pec.specs.Pec.{pec}

-- a read of a register, four bytes and a PEC, and of a block, which tells its own count before them
abbrev pub ask_word : ℕ → Request
ask_word address = read_of address 0xC5 5

abbrev pub ask_block : ℕ → ℕ → Request
ask_block address command = read_of address command 6

-- the requests that there are: writes, and reads of a register and of a block
pub data Made : Request → Type 0 where
  write : (sent : List ℕ) (p : ℕ) → Made (framed sent p)
  register : (address : ℕ) → Made (ask_word address)
  block : (address command : ℕ) → Made (ask_block address command)

-- a read's PEC covers the address, the command, the read address, and then the bytes read before it
abbrev pub register_pec : ℕ → ℕ → ℕ → ℕ → ℕ → ℕ
register_pec address a b c d = pec (address ∷ 0xC5 ∷ read_address address ∷ a ∷ b ∷ c ∷ d ∷ [])

abbrev pub block_pec : ℕ → ℕ → ℕ → ℕ → ℕ → ℕ → ℕ
block_pec address command a b c d = pec (address ∷ command ∷ read_address address ∷ 0x04 ∷ a ∷ b ∷ c ∷ d ∷ [])

-- the number that four bytes spell, lowest first
abbrev pub spelled : ℕ → ℕ → ℕ → ℕ → ℕ
spelled a b c d = a + 256 * (b + 256 * (c + 256 * d))

-- a reply in form, of kind 1 (done), with the word that it tells
pub data InForm : Request → ℕ → List ℕ → ℕ → Type 0 where
  -- a write's reply has no bytes
  wrote : (sent : List ℕ) (p : ℕ) → InForm (framed sent p) 1 [] 0
  -- a register's is four bytes and the PEC
  register_read : (address a b c d : ℕ) → InForm (ask_word address) 1 (a ∷ b ∷ c ∷ d ∷ register_pec address a b c d ∷ []) (spelled a b c d)
  -- a block's is 04, four bytes and the PEC
  block_read : (address command a b c d : ℕ)
      → InForm (ask_block address command) 1 (0x04 ∷ a ∷ b ∷ c ∷ d ∷ block_pec address command a b c d ∷ []) (spelled a b c d)

-- a wrong byte count, or a block count that is not 4
pub data WrongShape : Request → List ℕ → Type 0 where
  write_bytes : (sent : List ℕ) (p : ℕ) (rs : List ℕ) → (length rs ≡ 0 → ⊥) → WrongShape (framed sent p) rs
  register_bytes : (address : ℕ) (rs : List ℕ) → (length rs ≡ 5 → ⊥) → WrongShape (ask_word address) rs
  block_bytes : (address command : ℕ) (rs : List ℕ) → (length rs ≡ 6 → ⊥) → WrongShape (ask_block address command) rs
  block_count : (address command n : ℕ) (rs : List ℕ) → length rs ≡ 5 → (n ≡ 4 → ⊥) → WrongShape (ask_block address command) (n ∷ rs)

-- the right counts, and a last byte that is not the PEC
pub data WrongPec : Request → List ℕ → Type 0 where
  register_code : (address a b c d p : ℕ) → (p ≡ register_pec address a b c d → ⊥) → WrongPec (ask_word address) (a ∷ b ∷ c ∷ d ∷ p ∷ [])
  block_code : (address command a b c d p : ℕ) → (p ≡ block_pec address command a b c d → ⊥)
      → WrongPec (ask_block address command) (0x04 ∷ a ∷ b ∷ c ∷ d ∷ p ∷ [])

-- what each form says of a reply: 20, kind 0, whatever its bytes; 21, a kind above 1, or done in a wrong shape; 22, done with a
-- wrong PEC; otherwise in form
unfoldable pub Says : Request → ℕ → List ℕ → Result ℕ Misreply → Type 0
Says q kind rs (Err Unanswered) = kind ≡ 0
Says q kind rs (Err Misshapen) = (1 < kind) ⊎ ((kind ≡ 1) × WrongShape q rs)
Says q kind rs (Err Miscoded) = (kind ≡ 1) × WrongPec q rs
Says q kind rs (Ok w) = InForm q kind rs w

-- for every reply to this request: `form_of` gives a form exactly where the reply is what the form says
unfoldable pub Means : Request → Type 0
Means q = (kind : ℕ) (rs : List ℕ) (x : Result ℕ Misreply) → (form_of q kind rs ≡ x) ↔ Says q kind rs x
