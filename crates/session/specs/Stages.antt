-- What a reply in form leads to where its word is looked at, or where configurations are gone through: steps 2, 4, 5 and 6 of
-- document 01. Assumes nothing.
use Rattle.std.specs.Prelude.{ℕ, ◌+◌, List, [], ◌∷◌, cond, eqb, ltb, Result, Ok, Err}
use Rattle.counts.specs.declared.ConfigNumber.{ConfigNumber}
use Rattle.counts.specs.Counts.{config_number, first_line}
use Rattle.bus.specs.Bus.{write_of}
use Rattle.guide.specs.declared.Reason.{Reason}
use Rattle.guide.specs.declared.Reason.TheVariants.{Program, Banks}
use Rattle.guide.specs.declared.Verdict.TheVariants.{Done, Mismatch, Halted}
use Rattle.guide.specs.declared.Words.{Words}
use Rattle.guide.specs.declared.Polled.{Polled}
use Rattle.guide.specs.declared.Polled.TheVariants.{Busy, Passed, Failed}
use Rattle.guide.specs.Requests.{point_to, read_data, read_block}
use Rattle.guide.specs.Judged.{fit_of, polled_of, banks_right}
use Rattle.guide.specs.Guide.{target_of, id_in, crc_in}
use Rattle.session.specs.declared.Position.{Position}
use Rattle.session.specs.declared.Session.{Session}
use Rattle.session.specs.declared.Handed.{Handed}
use Rattle.session.specs.declared.Awaited.TheVariants.{IdentityRead, FlagAt, RevisionRead, StatusRead, BanksAt, Restore}
use Rattle.session.specs.Terms.{kept_of}
use Rattle.session.specs.Moves.{address_of, with_position, put_of, end_of}
use Rattle.session.specs.Lines.{put_line_of}

unfoldable pub at_read : Position → Words → Position
at_read p read = record { line = p.line; place = p.place; config = p.config; polls = p.polls; read = read }

unfoldable pub at_polls : Position → ℕ → Position
at_polls p n = record { line = p.line; place = p.place; config = p.config; polls = n; read = p.read }

unfoldable pub at_config : Position → ConfigNumber → Position
at_config p N = record { line = p.line; place = p.place; config = N; polls = p.polls; read = p.read }

-- ---- step 2: the counter, the identity and the flag are kept until the revision is read

unfoldable pub with_counter : Words → ℕ → Words
with_counter read w = record { counter = w; identity = read.identity; flag = read.flag; revision = read.revision }

unfoldable pub with_identity : Words → ℕ → Words
with_identity read w = record { counter = read.counter; identity = w; flag = read.flag; revision = read.revision }

unfoldable pub with_flag : Words → ℕ → Words
with_flag read w = record { counter = read.counter; identity = read.identity; flag = w; revision = read.revision }

unfoldable pub with_revision : Words → ℕ → Words
with_revision read w = record { counter = read.counter; identity = read.identity; flag = read.flag; revision = w }

-- the same session with these words read
abbrev pub having_read : Session → Words → Session
having_read s read = with_position s (at_read s.position read)

unfoldable pub counter_done_of : Session → ℕ → Handed
counter_done_of s w = put_of (having_read s (with_counter s.position.read w)) IdentityRead (read_block (address_of s) 0xAD)

unfoldable pub identity_done_of : Session → ℕ → Handed
identity_done_of s w = put_of (having_read s (with_identity s.position.read w)) FlagAt (point_to (address_of s) 0x87 0xBD)

unfoldable pub flag_done_of : Session → ℕ → Handed
flag_done_of s w = put_of (having_read s (with_flag s.position.read w)) RevisionRead (read_block (address_of s) 0xAE)

-- 23 to 28 are tried after the AE reply; where none applies, line 5 is due
unfoldable pub fit_done_of : List ℕ → Session → Result (Unit {0}) Reason → Handed
fit_done_of text s (Ok tt) = put_line_of text s first_line
fit_done_of text s (Err r) = end_of s (Halted r)

unfoldable pub fit_held : Session → ℕ → Result (Unit {0}) Reason
fit_held s revision = fit_of (target_of s.file) (kept_of s.settings.rule) (with_revision s.position.read revision)

unfoldable pub revision_done_of : List ℕ → Session → ℕ → Handed
revision_done_of text s w = fit_done_of text s (fit_held s w)

-- ---- step 4: read C5 until bit 0 is 1 or the poll limit is used; then step 5: write C7 7F 00

unfoldable pub poll_again_of : Session → Handed
poll_again_of s =
    cond (ltb (s.position.polls + 1) s.settings.limit)
    (put_of (with_position s (at_polls s.position (s.position.polls + 1))) StatusRead (read_data (address_of s)))
    (end_of s (Halted Program))

unfoldable pub polled_done_of : Session → Polled → Handed
polled_done_of s Busy = poll_again_of s
polled_done_of s Passed = put_of s BanksAt (point_to (address_of s) 0x7F 0x00)
polled_done_of s Failed = end_of s (Halted Program)

unfoldable pub status_done_of : Session → ℕ → Handed
status_done_of s w = polled_done_of s (polled_of w)

-- ---- steps 5 and 6: for N from 0, write RESTORE_CFG with one data byte, the identifier; DONE when all N passed

unfoldable pub restore_of : Session → ConfigNumber → Handed
restore_of s N = put_of (with_position s (at_config s.position N)) Restore (write_of (address_of s) s.settings.restore (id_in s.file N.0 ∷ []))

unfoldable pub banks_done_of : Session → ℕ → Handed
banks_done_of s w = cond (banks_right s.file.configs w) (restore_of s (config_number 0)) (end_of s (Halted Banks))

unfoldable pub restore_next_of : Session → Handed
restore_next_of s =
    cond (ltb (s.position.config.0 + 1) s.file.configs) (restore_of s (config_number (s.position.config.0 + 1))) (end_of s Done)

unfoldable pub crc_done_of : Session → ℕ → Handed
crc_done_of s w = cond (eqb w (crc_in s.file s.position.config.0)) (restore_next_of s) (end_of s (Mismatch s.position.config))
