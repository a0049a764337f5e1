-- What a dry run writes from the beginning on. Assumes nothing.
use Rattle.std.specs.Prelude.{ℕ, zero, suc, cond, List, [], ◌++◌, eqb, length, Option, Some, None, Result, Ok, Err}
use Rattle.bus.specs.declared.Request.{Request}
use Rattle.session.specs.declared.Handed.{Handed}
use Rattle.session.specs.Reply.{reply_of}
use Rattle.session.specs.Reports.{report_of}
use Rattle.tape.specs.declared.Reply.{Reply}
use Rattle.tape.specs.declared.CutShort.{CutShort}
use Rattle.tape.specs.Replies.{between, found_at}
use Rattle.dryrun.specs.Lines.{request_line, report_line, count_line}

-- a request of zeros is none
unfoldable pub request_lines : Request → List ℕ
request_lines q = cond (eqb q.used 0) [] (request_line q)

-- how the session stands, and what it has put out
unfoldable pub end_lines : Handed → List ℕ
end_lines h = report_line (report_of h.answer) ++ count_line h.session.sent h.session.burned

-- what a call hands over is written, and then what is written from there on
abbrev pub then_lines : Handed → (Handed → List ℕ) → List ℕ
then_lines next on = request_lines next.request ++ on next

-- where no whole reply stands the run ends, else it goes on behind the reply
unfoldable pub lines_by : List ℕ → List ℕ → Handed → Result (Option Reply) CutShort → (ℕ → Handed → List ℕ) → List ℕ
lines_by text input h (Ok None) on = end_lines h
lines_by text input h (Ok (Some reply)) on = then_lines (reply_of text h.session reply.kind (between input reply.start reply.end)) (on reply.end)
lines_by text input h (Err cut) on = end_lines h

-- so many replies at most
unfoldable pub lines_from : ℕ → List ℕ → List ℕ → ℕ → Handed → List ℕ
lines_from zero text input at h = end_lines h
lines_from (suc most) text input at h = lines_by text input h (found_at input at) (lines_from most text input)

-- one call for each reply from a place of the input on, with the text that is lent; no input has more replies than bytes
unfoldable pub run_lines : List ℕ → List ℕ → ℕ → Handed → List ℕ
run_lines text input at begun = then_lines begun (lines_from (length input) text input at)
