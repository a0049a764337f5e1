-- What the simulated regulator answers: at its own address, in form, from what it holds (document 01, "The session"; document 02, R-2).
-- Assumes nothing.
use Rattle.std.specs.Prelude.{ℕ, cond, List, [], ◌∷◌, ◌++◌, ◌==◌, slice_index}
use Rattle.bus.specs.Bus.{read_address, word_bytes}
use Rattle.bus.specs.declared.Request.{Request}
use Rattle.pec.specs.Pec.{pec}
use Rattle.host.specs.declared.Regulator.{Regulator}
use Rattle.host.specs.declared.Reply.{Reply}
use Rattle.host.specs.declared.Reply.TheVariants.{Silent, Took, Word, Block}

-- the number that the session takes a reply by: not acknowledged, or done
unfoldable pub kind_of : Reply → ℕ
kind_of Silent = 0
kind_of Took = 1
kind_of (Word bs) = 1
kind_of (Block bs) = 1

-- the bytes of a reply that are handed on
unfoldable pub handed : Reply → List ℕ
handed Silent = []
handed Took = []
handed (Word bs) = bs
handed (Block bs) = bs

-- four bytes, lowest first, and their PEC
unfoldable pub word_reply : ℕ → ℕ → ℕ → Reply
word_reply address command w = Word (word_bytes w ++ (pec (address ∷ command ∷ read_address address ∷ word_bytes w) ∷ []))

-- the count 4, four bytes, lowest first, and their PEC
unfoldable pub block_reply : ℕ → ℕ → ℕ → Reply
block_reply address command w = Block (4 ∷ (word_bytes w ++ (pec (address ∷ command ∷ read_address address ∷ 4 ∷ word_bytes w) ∷ [])))

-- what the register that was pointed to shows
unfoldable pub value_of : Regulator → ℕ
value_of d =
    cond (d.register == 0x0035) d.counter
    (cond (d.register == 0xBD87) d.flag
    (cond (d.register == 0x007E) (cond (d.busy == 0) 1 0)
    (cond (d.register == 0x007F) d.banks (cond (d.register == 0x0094) d.crc 0))))

-- identity and revision are blocks
unfoldable pub read_reply : Regulator → ℕ → Reply
read_reply d command =
    cond (command == 0xAD) (block_reply d.address command d.file.identity)
    (cond (command == 0xAE) (block_reply d.address command 0x06000000) (word_reply d.address command (value_of d)))

-- to a request that it hears
unfoldable pub heard_reply : Regulator → Request → Reply
heard_reply d q = cond (d.lasts == 0) Silent (cond q.reads (read_reply d (slice_index q.bytes 1)) Took)

-- what is for another address it does not acknowledge
unfoldable pub device_reply : Regulator → Request → Reply
device_reply d q = cond (slice_index q.bytes 0 == d.address) (heard_reply d q) Silent
