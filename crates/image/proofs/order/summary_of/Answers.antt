-- Each test that stops has its number, and those before it leave the rest. Assumes nothing.
use Rattle.std.proofs.Common.{◌≡◌, ◌∙◌, ℕ, List, length, false, sym, ap, Ok}
use Rattle.std.proofs.lemmas.Result.{err_from_is_err_and}
use borrow.Author.Tests.{ltb-false}
use Rattle.promise.proofs.Basics.{via}
use Rattle.image.specs.declared.Facts.{Facts}
use Rattle.image.specs.Says.{identity_of}
use Rattle.image.specs.Tests.{too_long}
use Rattle.image.specs.Check.{answer_of}
use Rattle.image.specs.Private.Rest.{AllGood, said_as, rest_of}
use Rattle.image.proofs.SpotPlaces.{line_one, place_from}
use Rattle.image.proofs.RestOfTests.{size_stops, size_passes, line_stops, lines_pass, few_configs}
use Rattle.image.proofs.WalkKeeps.{said}
use Rattle.image.proofs.order.summary_of.Goals as goal

module _ (s : List ℕ) where
  -- of a text that is not too long and whose lines are good
  passed : {f : Facts} → too_long s ≡ false → AllGood s f → rest_of 0 s ≡ said_as s (answer_of s)
  passed h good = lines_pass s good ∙ size_passes s h

pub facts_of-requires : goal.facts_of-requires
unfolding too_long
facts_of-requires c = ltb-false 65536 (length c.args.s.now) (via c.too_long.ensures c.if-too_long.false)

pub returns-then-too_long : goal.returns-then-too_long
returns-then-too_long c = rw c.into.ensures (size_stops c.args.s.now (via c.too_long.ensures c.if-too_long.true))

pub returns-in_err-facts : goal.returns-in_err-facts
returns-in_err-facts c =
    let s = c.args.s.now in
    let p = err_from_is_err_and c.from_residual.result c.from_residual.ensures.1 in
    rw (p.1, p.2) (line_stops s (sym c.facts_of.ensures ∙ c.in_err-facts.was) ∙ size_passes s (via c.too_long.ensures c.if-too_long.false))

pub returns-in_err-kind : goal.returns-in_err-kind
returns-in_err-kind c =
    let s = c.args.s.now in
    let p = err_from_is_err_and c.from_residual-in_err-kind.result c.from_residual-in_err-kind.ensures.1 in
    rw (p.1, p.2) (c.in_err-kind.ensures ∙ passed s (via c.too_long.ensures c.if-too_long.false) (sym c.facts_of.ensures ∙ c.in_ok-facts.was))

pub returns-in_err-spots : goal.returns-in_err-spots
returns-in_err-spots c =
    let s = c.args.s.now in
    let p = err_from_is_err_and c.from_residual-in_err-spots.result c.from_residual-in_err-spots.ensures.1 in
    rw (p.1, p.2) (c.in_err-spots.ensures ∙ c.in_ok-kind.ensures.2 ∙ passed s (via c.too_long.ensures c.if-too_long.false) (sym c.facts_of.ensures ∙ c.in_ok-facts.was))

pub returns : goal.returns
returns c =
    let s = c.args.s.now in
    let all = c.in_ok-kind.ensures in
    let spots = c.in_ok-spots.ensures in
    ap Ok (said s c.in_ok-facts.facts all.0.good c.in_ok-kind.kind all.0.is c.in_ok-kind.configs all.0.configs (few_configs s all.0)
    (c.identity_of.ensures ∙ ap identity_of (c.line_at.ensures ∙ line_one s)) (c.skip.ensures ∙ place_from 4 s) spots.0)
    ∙ spots.1 ∙ all.2 ∙ passed s (via c.too_long.ensures c.if-too_long.false) all.0.good
