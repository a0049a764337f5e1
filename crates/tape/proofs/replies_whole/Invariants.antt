-- What is left to look at answers for the whole. Assumes nothing.
use Rattle.std.proofs.Common.{◌≡◌, length}
use Rattle.tape.specs.Replies.{whole_replies}
use Rattle.tape.proofs.replies_whole.Given as goal

abbrev pub invariant-loop-reply : goal.invariant-loop-reply
invariant-loop-reply l =
    (l.reply-iterator.input.now ≡ l.input)
    × (whole_replies (length l.input) l.input l.from ≡ whole_replies (length l.input) l.input l.reply-iterator.at)
