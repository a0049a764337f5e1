-- The beginning (document 01, "The session"; document 02, R-3): settings, summary, first request; and the one operation that checks the
-- file before it. Assumes nothing.
use Rattle.std.specs.Prelude.{ℕ, List, false, cond, Ok, Err}
use Rattle.counts.specs.declared.LineNumber.{LineNumber}
use Rattle.counts.specs.Counts.{line_number, config_number, first_line}
use Rattle.summary.specs.declared.Summary.{Summary}
use Rattle.summary.specs.declared.Checked.{Checked}
use Rattle.summary.specs.Answers.{FileAnswer, no_summary}
use Rattle.image.specs.Check.{check_of}
use Rattle.bus.specs.Bus.{no_request}
use Rattle.guide.specs.declared.Verdict.{Verdict}
use Rattle.guide.specs.declared.Verdict.TheVariants.{Setting, File, State}
use Rattle.guide.specs.declared.Words.{Words}
use Rattle.guide.specs.Requests.{point_to}
use Rattle.session.specs.declared.Settings.{Settings}
use Rattle.session.specs.declared.Position.{Position}
use Rattle.session.specs.declared.Session.{Session}
use Rattle.session.specs.declared.Handed.{Handed}
use Rattle.session.specs.declared.Stage.{Stage}
use Rattle.session.specs.declared.Stage.TheVariants.{Open, Ended}
use Rattle.session.specs.declared.Awaited.TheVariants.{CaptureAt, CounterAt}
use Rattle.session.specs.Sound.{allowed_of, file_sound}
use Rattle.session.specs.Moves.{address_of, put_of, over_of}

-- nothing read yet
abbrev pub no_words : Words
no_words = record { counter = 0; identity = 0; flag = 0; revision = 0 }

unfoldable pub new_position : LineNumber → ℕ → Position
new_position n place = record { line = n; place = place; config = config_number 0; polls = 0; read = no_words }

-- nothing put out yet: count 0, no burn, a request of zeros
unfoldable pub fresh_of : Settings → Summary → Stage → Position → Session
fresh_of S f g p = record { settings = S; file = f; stage = g; hand = no_request; position = p; sent = 0; burned = false }

-- step 1 if wanted, else step 2: write C7 A2 00, or C7 35 00
unfoldable pub first_of : Session → Handed
first_of s = cond s.settings.wanted (put_of s CaptureAt (point_to (address_of s) 0xA2 0x00)) (put_of s CounterAt (point_to (address_of s) 0x35 0x00))

-- an accepted begin hands back the first request, count 1; the line in hand is 5, and the place is where it begins
unfoldable pub start_of : Settings → Summary → Handed
start_of S f = first_of (fresh_of S f (Open CaptureAt) (new_position first_line f.line5))

-- a refused one hands back an ended state whose verdict is that number, and zeros
unfoldable pub refused_of : Settings → Verdict → Handed
refused_of S v = over_of (fresh_of S no_summary (Ended v) (new_position (line_number 0) 0)) v

-- settings come first: 14; then 15, where the summary's k, n or identifiers are out of their bounds
unfoldable pub begin_with : Settings → Summary → Handed
begin_with S f = cond (allowed_of S) (cond (file_sound f) (start_of S f) (refused_of S State)) (refused_of S Setting)

-- ---- document 01's one operation: a check, and a beginning with its summary; a refused file has its own number, behind 14

unfoldable pub answered_of : Settings → Summary → FileAnswer → Handed
answered_of S f (Ok tt) = begin_with S f
answered_of S f (Err r) = refused_of S (File r)

unfoldable pub checked_of : Settings → Checked → Handed
checked_of S k = answered_of S k.summary k.answer

unfoldable pub begin_of : Settings → List ℕ → Handed
begin_of S text = cond (allowed_of S) (checked_of S (check_of text)) (refused_of S Setting)
