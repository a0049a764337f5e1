-- By the state; the stages are handed what they use of a state that passed. Assumes nothing.
use Rattle.std.proofs.Common.{◌∙◌, ap, true, false}
use Rattle.promise.proofs.Basics.{via}
use Rattle.session.specs.Reply.{replied_of}
use Rattle.session.proofs.Laws.{when_open}
use Rattle.session.proofs.Session.reply.Goals as goal

pub returns-then-sound : goal.returns-then-sound
returns-then-sound c =
    c.replied.ensures
    ∙ (ap (replied_of _ _ _) c.form.ensures
    ∙ when_open _ _ _ _ _ true c.in-Open.is (via c.sound.ensures c.if-sound.true))

pub returns-else-sound : goal.returns-else-sound
returns-else-sound c =
    c.bad.ensures ∙ when_open _ _ _ _ _ false c.in-Open.is (via c.sound.ensures c.if-sound.false)
