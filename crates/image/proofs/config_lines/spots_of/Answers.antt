-- After n turns the spots are those of the first n configurations, and all of them are C6. Assumes nothing.
use Rattle.std.proofs.Common.{◌∙◌, ℕ, refl, sym, ap, arith, rules, add-one}
use Rattle.image.specs.declared.Spots.{Spots}
use Rattle.image.specs.Tests.{some_below}
use Rattle.image.specs.Private.Walk.{off_at, spots_to}
use Rattle.image.proofs.Search.{below_on, below_found}
use Rattle.image.proofs.SpotPlaces.{place_start}
use Rattle.image.proofs.WalkSpots.{found_off, none_on}
use Rattle.image.proofs.config_lines.spots_of.Goals as goal

pub loop-n-init : goal.loop-n-init
unfolding spots_to some_below
loop-n-init c = (refl, c.no_spots-spots.ensures, place_start c.args.kind c.args.s.now, omega arith)

pub loop-n-preserved : goal.loop-n-preserved
unfolding spots_to
loop-n-preserved c =
    let k = found_off _ _ _ (sym c.spots_with.ensures ∙ c.in_ok-more.was) in (
      below_on (off_at c.args.kind c.args.s.now) c.loop-n.n c.loop-n.invariant.0 k.0,
      sym (ap (λ (x : Spots × ℕ). x.0) k.1) ∙ rw (add-one, c.loop-n.invariant.1),
      sym (ap (λ (x : Spots × ℕ). x.1) k.1),
      omega arith,
    )

pub returns-in_err-more : goal.returns-in_err-more
returns-in_err-more c =
    let k = none_on _ _ (sym c.spots_with.ensures ∙ c.in_err-more.was) in
    rw (c.from_residual.ensures, below_found (off_at c.args.kind c.args.s.now) c.loop-n.n c.args.k (search rules) k)
