-- What a call hands back: the next request, an end, or the refusal of the state (document 01, "The session"). A session is
-- rebuilt here, once for each part, and in `fresh_of`. Assumes nothing.
use Rattle.std.specs.Prelude.{ℕ, ◌+◌, Bool}
use Rattle.bus.specs.Bus.{no_request}
use Rattle.bus.specs.declared.Request.{Request}
use Rattle.guide.specs.declared.Verdict.{Verdict}
use Rattle.session.specs.declared.Position.{Position}
use Rattle.session.specs.declared.Session.{Session}
use Rattle.session.specs.declared.Stage.{Stage}
use Rattle.session.specs.declared.Stage.TheVariants.{Open, Ended}
use Rattle.session.specs.declared.Awaited.{Awaited}
use Rattle.session.specs.declared.Answer.TheVariants.{Next, Over, BadState}
use Rattle.session.specs.declared.Handed.{Handed}

-- the device's write address, which every request goes to
abbrev pub address_of : Session → ℕ
address_of s = s.settings.address

unfoldable pub with_stage : Session → Stage → Request → Session
with_stage s g q = record { settings = s.settings; file = s.file; stage = g; hand = q; position = s.position; sent = s.sent; burned = s.burned }

unfoldable pub with_position : Session → Position → Session
with_position s p = record { settings = s.settings; file = s.file; stage = s.stage; hand = s.hand; position = p; sent = s.sent; burned = s.burned }

unfoldable pub with_burned : Session → Bool → Session
with_burned s b = record { settings = s.settings; file = s.file; stage = s.stage; hand = s.hand; position = s.position; sent = s.sent; burned = b }

unfoldable pub with_sent : Session → ℕ → Session
with_sent s n = record { settings = s.settings; file = s.file; stage = s.stage; hand = s.hand; position = s.position; sent = n; burned = s.burned }

-- a request that is handed over is put out: the count is one more
unfoldable pub put_of : Session → Awaited → Request → Handed
put_of s g q = record { session = with_sent (with_stage s (Open g) q) (s.sent + 1); request = q; answer = Next }

-- a verdict comes with a request of zeros
unfoldable pub end_of : Session → Verdict → Handed
end_of s v = record { session = with_stage s (Ended v) s.hand; request = no_request; answer = Over v }

-- 15 leaves the state as given
unfoldable pub bad_of : Session → Handed
bad_of s = record { session = s; request = no_request; answer = BadState }

-- after a verdict: the same verdict, the same state and a request of zeros
unfoldable pub over_of : Session → Verdict → Handed
over_of s v = record { session = s; request = no_request; answer = Over v }
