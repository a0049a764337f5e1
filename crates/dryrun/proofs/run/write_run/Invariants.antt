-- Where all could be written so far, whatever is written from here on completes the whole. Assumes nothing.
use Rattle.std.proofs.Common.{ℕ, List, Option, ◌≡◌, length}
use Rattle.std.specs.Prelude.{OnOk}
use Rattle.std.specs.Io.KnownBytes.{Appends}
use Rattle.dryrun.specs.Run.{lines_from, run_lines}
use Rattle.dryrun.proofs.run.write_run.Given as goal

abbrev pub invariant-loop-reply : goal.invariant-loop-reply
invariant-loop-reply g l =
    (l.reply-iterator.input.now ≡ l.fn.replies.input.now)
    × ((whole : Option (List ℕ))
    → OnOk l.written
    (Appends (g.W.Write.contents l.out) whole (lines_from (length l.reply-iterator.input.now) l.text l.reply-iterator.input.now l.reply-iterator.at l.handed)
    → Appends (g.W.Write.contents l.fn.out) whole (run_lines l.text l.fn.replies.input.now l.fn.replies.at l.fn.begun)))
