-- The burn is the first of the tests here. Assumes nothing.
use Rattle.promise.proofs.Basics.{via}
use Rattle.image.proofs.RestOfTests.{burn_stops}
use Rattle.image.proofs.order.tried.Goals as goal

pub returns-then-burn_amiss : goal.returns-then-burn_amiss
returns-then-burn_amiss c = burn_stops _ c.requires.0 c.requires.1 (via c.burn_amiss.ensures c.if-burn_amiss.true)
