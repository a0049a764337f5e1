-- A good line moves the place on, and its facts are added. Assumes nothing.
use Rattle.std.proofs.Common.{◌∙◌, sym, ap, arith, Ok}
use Rattle.std.proofs.lemmas.Result.{err_from_is_err_and}
use Rattle.image.proofs.WalkSteps.{facts_went, facts_err, facts_ended, with_lines}
use Rattle.image.proofs.walk.facts_of.Goals as goal

pub loop-line-smaller : goal.loop-line-smaller
loop-line-smaller c =
    let went = facts_went c.loop-line.facts c.args.s.now c.loop-line.at _ _ (sym c.line_after.ensures ∙ c.in_ok-line.was ∙ ap Ok c.in-Some.is) in
    omega (arith, went.1, went.2)

pub loop-line-preserved : goal.loop-line-preserved
loop-line-preserved c =
    let f = c.loop-line.facts in
    let went = facts_went f c.args.s.now c.loop-line.at _ _ (sym c.line_after.ensures ∙ c.in_ok-line.was ∙ ap Ok c.in-Some.is) in
    rw c.facts_with-facts.ensures (c.loop-line.invariant.0 ∙ went.0, omega (arith, with_lines f c.in-Some.line, went.1), went.2)

pub returns-in_err-line : goal.returns-in_err-line
returns-in_err-line c =
    let p = err_from_is_err_and c.from_residual.result c.from_residual.ensures.1 in
    let gone = facts_err c.loop-line.facts c.args.s.now c.loop-line.at _ (sym c.line_after.ensures ∙ c.in_err-line.was) in
    rw (p.1, p.2) (sym gone ∙ sym c.loop-line.invariant.0)

pub returns : goal.returns
returns c =
    let e = sym c.line_after.ensures ∙ c.in_ok-line.was ∙ ap Ok c.in_default.is in
    sym (c.loop-line.invariant.0 ∙ facts_ended c.loop-line.facts c.args.s.now c.loop-line.at e)
