-- Each call adds its line, and where the replies end the rest is how the session stands. Assumes nothing.
use Rattle.std.proofs.Common.{◌≡◌, List, ℕ, length, ap, ◌∙◌}
use Rattle.std.specs.Borrow.{Bor}
use Rattle.std.proofs.KnownBytes.{Appends-trans}
use Rattle.tape.specs.declared.Replies.{Replies}
use Rattle.dryrun.specs.Run.{end_lines, lines_from, run_lines}
use Rattle.dryrun.proofs.Written.{reply_more, none_more, part_more, on_ok, and_ok}
use Rattle.dryrun.proofs.run.write_run.Goals as goal
use Rattle.dryrun.proofs.run.write_run.Goals.{in-None, in-Some+in_default}

pub loop-reply-init : goal.loop-reply-init
unfolding run_lines
loop-reply-init g c =
    let same = c.into_iter-reply-iterator.ensures.into_iter_gives in
    (ap (λ (r : Replies). r.input.now) same, λ whole. on_ok c.write_request-written.result c.write_request-written.ensures (λ asked rest. Appends-trans _ _ _ _ _ asked (rw same at rest)))

pub loop-reply-preserved : goal.loop-reply-preserved
loop-reply-preserved g c =
    let steps = rw c.in-Ok.is at c.in-Some.ensures.steps in
    let same = ap (λ (b : Bor (List ℕ)). b.now) steps.0 in (
      same ∙ c.loop-reply.invariant.0,
      λ whole. rw c.and-written.ensures
          (and_ok c.loop-reply.written c.write_request.result (c.loop-reply.invariant.1 whole) c.write_request.ensures
          (λ before asked rest. before (reply_more _ _ _ _ _ _ _ _ _ _ _ _ same steps.1.0 steps.1.1 c.reply-handed.ensures asked rest))),
    )

pub returns : goal.returns
returns g c =
    let it = c.loop-reply.reply-iterator in
    let over : lines_from (length it.input.now) c.args.text.now it.input.now it.at c.loop-reply.handed ≡ end_lines c.loop-reply.handed =
    elim c.match-next.branch [
      | in-None w ↦ none_more _ _ _ _ (rw w.in-None.is at c.next.ensures.steps).1
      | in-Some+in_default w ↦ part_more _ _ _ _ w.in_default.field-0 (rw w.in_default.is at w.in-Some.ensures.steps).1
    ] in
    rw c.and.ensures
    (and_ok c.loop-reply.written c.write_end.result (c.loop-reply.invariant.1 (g.W.Write.contents c.write_end.new.out)) c.write_end.ensures (λ before last. before (rw over last)))
