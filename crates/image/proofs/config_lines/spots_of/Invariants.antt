-- After n turns the spots are those of the first n configurations, and all of them are C6. Assumes nothing.
use Rattle.std.proofs.Common.{◌≡◌, ◌*◌, ◌≤◌, false}
use Rattle.counts.specs.Counts.{step_of}
use Rattle.cuts.specs.Lines.{place_of}
use Rattle.image.specs.Private.Walk.{off_spots, spots_to}
use Rattle.image.proofs.config_lines.spots_of.Given as goal

abbrev pub invariant-loop-n : goal.invariant-loop-n
invariant-loop-n l =
    (off_spots l.kind l.s l.n ≡ false) × (l.spots ≡ spots_to l.kind l.s l.n) × (l.at ≡ place_of (step_of l.kind * l.n) l.s) × (l.n ≤ l.k)
