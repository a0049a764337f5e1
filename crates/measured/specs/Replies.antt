-- A dry run of which only so many replies are given: what bench/ measures. Assumes nothing.
use Rattle.std.specs.Prelude.{ℕ, zero, suc, List, Option, Some, None, Result, Ok, Err}
use Rattle.session.specs.declared.Session.{Session}
use Rattle.session.specs.Begin.{begin_of}
use Rattle.session.specs.Reply.{reply_of}
use Rattle.dryrun.specs.declared.Header.{Header}
use Rattle.dryrun.specs.declared.Unfit.{Unfit}
use Rattle.dryrun.specs.Parts.{file_at, input_of}
use Rattle.tape.specs.declared.Reply.{Reply}
use Rattle.tape.specs.declared.CutShort.{CutShort}
use Rattle.tape.specs.Replies.{between, found_at}

-- where no whole reply stands the session stays as it is, else it goes on behind the reply
unfoldable pub fed_by : List ℕ → List ℕ → Session → Result (Option Reply) CutShort → (ℕ → Session → Session) → Session
fed_by input file s (Ok None) on = s
fed_by input file s (Ok (Some reply)) on = on reply.end (reply_of file s reply.kind (between input reply.start reply.end)).session
fed_by input file s (Err cut) on = s

-- the session after so many of the replies from a place on
unfoldable pub fed_of : List ℕ → List ℕ → ℕ → ℕ → Session → Session
fed_of input file zero at s = s
fed_of input file (suc n) at s = fed_by input file s (found_at input at) (fed_of input file n)

-- begun with the settings and the file of the input
unfoldable pub sent_by : List ℕ → ℕ → Result Header Unfit → ℕ
sent_by input n (Err unfit) = 0
sent_by input n (Ok h) =
    (fed_of input (between input file_at h.behind) n h.behind (begin_of h.settings (between input file_at h.behind)).session).sent

unfoldable pub sent_after : List ℕ → ℕ → ℕ
sent_after input n = sent_by input n (input_of input)
