-- By the settings, and what the file's check says. Assumes nothing.
use Rattle.std.proofs.Common.{◌∙◌}
use Rattle.promise.proofs.Basics.{via}
use Rattle.session.specs.Begin.{answered_of}
use Rattle.session.proofs.Laws.{begin_answered}
use Rattle.session.proofs.Settings.begin.Goals as goal

pub returns-in-Ok : goal.returns-in-Ok
unfolding answered_of
returns-in-Ok c =
    c.begin_with.ensures
    ∙ begin_answered _ _ _ _ c.check-checked.ensures (via c.allowed.ensures c.if-allowed.true) c.in-Ok.is

pub returns-in-Err : goal.returns-in-Err
unfolding answered_of
returns-in-Err c =
    c.refused.ensures
    ∙ begin_answered _ _ _ _ c.check-checked.ensures (via c.allowed.ensures c.if-allowed.true) c.in-Err.is
