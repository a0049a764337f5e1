-- A reply: a verdict is looked at first, then the held state, then the reply, by the request in hand (document 01, "The
-- session"). Assumes nothing.
use Rattle.std.specs.Prelude.{ℕ, List, [], ◌∷◌, cond, Result, Ok, Err}
use Rattle.bus.specs.declared.Misreply.{Misreply}
use Rattle.bus.specs.Bus.{write_of, word_bytes}
use Rattle.bus.specs.ReplyForm.{form_of}
use Rattle.guide.specs.declared.Verdict.TheVariants.{Halted}
use Rattle.guide.specs.Guide.{reply_reason}
use Rattle.guide.specs.Judged.{cleared}
use Rattle.guide.specs.Requests.{point_to, read_data}
use Rattle.session.specs.declared.Session.{Session}
use Rattle.session.specs.declared.Handed.{Handed}
use Rattle.session.specs.declared.Stage.{Stage}
use Rattle.session.specs.declared.Stage.TheVariants.{Open, Ended}
use Rattle.session.specs.declared.Awaited.{Awaited}
use Rattle.session.specs.declared.Awaited.TheVariants.{CaptureAt, CaptureRead, CaptureWrite, CaptureApply, CounterAt, CounterRead, IdentityRead, FlagAt, FlagRead, RevisionRead, LineOut, StatusAt, StatusRead, BanksAt, BanksRead, Restore, CrcAt, CrcRead}
use Rattle.session.specs.Moves.{address_of, put_of, end_of, bad_of, over_of}
use Rattle.session.specs.Sound.{sound_of}
use Rattle.session.specs.Lines.{line_done_of}
use Rattle.session.specs.Stages.{counter_done_of, identity_done_of, flag_done_of, revision_done_of, status_done_of, banks_done_of, crc_done_of}

-- the request behind each of the document's, in its order
unfoldable pub follow_of : List ℕ → Session → Awaited → ℕ → Handed
follow_of text s CaptureAt w = put_of s CaptureRead (read_data (address_of s))
follow_of text s CaptureRead w = put_of s CaptureWrite (write_of (address_of s) 0xC5 (word_bytes (cleared w)))
follow_of text s CaptureWrite w = put_of s CaptureApply (write_of (address_of s) 0xE7 (0x02 ∷ 0x00 ∷ []))
follow_of text s CaptureApply w = put_of s CounterAt (point_to (address_of s) 0x35 0x00)
follow_of text s CounterAt w = put_of s CounterRead (read_data (address_of s))
follow_of text s CounterRead w = counter_done_of s w
follow_of text s IdentityRead w = identity_done_of s w
follow_of text s FlagAt w = put_of s FlagRead (read_data (address_of s))
follow_of text s FlagRead w = flag_done_of s w
follow_of text s RevisionRead w = revision_done_of text s w
follow_of text s LineOut w = line_done_of text s
follow_of text s StatusAt w = put_of s StatusRead (read_data (address_of s))
follow_of text s StatusRead w = status_done_of s w
follow_of text s BanksAt w = put_of s BanksRead (read_data (address_of s))
follow_of text s BanksRead w = banks_done_of s w
follow_of text s Restore w = put_of s CrcAt (point_to (address_of s) 0x94 0x00)
follow_of text s CrcAt w = put_of s CrcRead (read_data (address_of s))
follow_of text s CrcRead w = crc_done_of s w

-- 20 to 22 are tried at each reply, in order
unfoldable pub replied_of : List ℕ → Session → Awaited → Result ℕ Misreply → Handed
replied_of text s g (Err m) = end_of s (Halted (reply_reason m))
replied_of text s g (Ok w) = follow_of text s g w

-- a state with a verdict is not examined further
unfoldable pub stage_of : List ℕ → Session → ℕ → List ℕ → Stage → Handed
stage_of text s kind bs (Ended v) = over_of s v
stage_of text s kind bs (Open g) = cond (sound_of s) (replied_of text s g (form_of s.hand kind bs)) (bad_of s)

unfoldable pub reply_of : List ℕ → Session → ℕ → List ℕ → Handed
reply_of text s kind bs = stage_of text s kind bs s.stage
