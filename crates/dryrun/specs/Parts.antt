-- The input of a dry run: a byte whether step 1 is wanted, two bytes poll limit, a byte RESTORE_CFG code, a byte house rule, a byte
-- write address, four bytes file length, the file, then replies as in tape; numbers lowest byte first. Assumes nothing.
use Rattle.std.specs.Prelude.{ℕ, ◌+◌, ◌*◌, ◌-◌, cond, List, ltb, length, Result, Ok, Err}
use Rattle.session.specs.declared.Settings.{Settings}
use Rattle.tape.specs.Replies.{byte, whole_replies}
use Rattle.dryrun.specs.declared.Header.{Header}
use Rattle.dryrun.specs.declared.Unfit.{Unfit}
use Rattle.dryrun.specs.declared.Unfit.TheVariants.{CutShort, TooLong}
use Rattle.text.specs.Text.{bytes_of}

-- two bytes, lowest first
unfoldable pub pair : ℕ → ℕ → ℕ
pair a b = a + 256 * b

-- where the file starts: behind six bytes of settings and four of its length
abbrev pub file_at : ℕ
file_at = 10

-- the four bytes at a place
unfoldable pub length_at : List ℕ → ℕ → ℕ
length_at s at = pair (byte s at) (byte s (at + 1)) + 65536 * pair (byte s (at + 2)) (byte s (at + 3))

abbrev pub file_length : List ℕ → ℕ
file_length s = length_at s 6

-- 0 is no, anything else yes
unfoldable pub settings_of : List ℕ → Settings
settings_of s =
    record { wanted = ltb 0 (byte s 0); limit = pair (byte s 1) (byte s 2); restore = byte s 3; rule = byte s 4; address = byte s 5 }

unfoldable pub header_of : List ℕ → ℕ → Header
header_of s file = record { settings = settings_of s; behind = file_at + file }

-- the place behind the file whose length stands at a place; room for a file of 65,600 bytes
unfoldable pub behind_of : List ℕ → ℕ → Result ℕ Unfit
behind_of s at =
    cond (ltb (length s) (at + 4)) (Err CutShort)
    (cond (ltb 65600 (length_at s at)) (Err TooLong)
    (cond (ltb (length s) (at + 4 + length_at s at)) (Err CutShort) (Ok (at + 4 + length_at s at))))

-- in front of a dry run's input, a file with its length: the place behind it
unfoldable pub front_of : List ℕ → Result ℕ Unfit
front_of s = behind_of s 0

-- room for a file of 65,600 bytes and 200,000 bytes of replies; what is missing at the end is cut short
unfoldable pub input_of : List ℕ → Result Header Unfit
input_of s =
    cond (ltb (length s) file_at) (Err CutShort)
    (cond (ltb 65600 (file_length s)) (Err TooLong)
    (cond (ltb (length s) (file_at + file_length s)) (Err CutShort)
    (cond (ltb 200000 (length s - file_at - file_length s)) (Err TooLong)
    (cond (whole_replies (length s) s (file_at + file_length s)) (Ok (header_of s (file_length s))) (Err CutShort)))))

-- what a program writes of an input that is not run, and nothing else
unfoldable pub unfit_words : Unfit → List ℕ
unfit_words CutShort = bytes_of "cut short"
unfit_words TooLong = bytes_of "too long"
