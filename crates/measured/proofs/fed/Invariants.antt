-- What is left to give leads to the same session as all of it did. Assumes nothing.
use Rattle.std.proofs.Common.{◌≡◌}
use Rattle.std.specs.Iterator.Adapters.{take_source, take_count}
use Rattle.measured.specs.Replies.{fed_of}
use Rattle.measured.proofs.fed.Given as goal

abbrev pub invariant-loop-reply : goal.invariant-loop-reply
invariant-loop-reply l =
    ((take_source l.reply-iterator).input.now ≡ l.input)
    × (fed_of l.input l.file l.replies l.from l.initial.s
    ≡ fed_of l.input l.file (take_count l.reply-iterator) (take_source l.reply-iterator).at l.s)
