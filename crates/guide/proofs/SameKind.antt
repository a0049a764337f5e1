-- `==` at two kinds is the guide's own test on them. Assumes nothing.
use mathlib.Core.Path.{◌≡◌, refl}
use denote.Enum.Bare.{sameb}
use Rattle.counts.specs.declared.Kind.{Kind}
use Rattle.counts.specs.declared.Kind.TheVariants.{Legacy, Production}
use Rattle.counts.specs.contracts.Kind.{the_type}
use Rattle.guide.specs.Judged.{same_kind}

pub kinds_compared : (a b : Kind) → same_kind a b ≡ sameb the_type a b
unfolding same_kind
kinds_compared Legacy Legacy = refl
kinds_compared Legacy Production = refl
kinds_compared Production Legacy = refl
kinds_compared Production Production = refl
