-- The guide's list has at most n + poll limit + 3 k + 9 requests. Assumes nothing.
use mathlib.Core.Path.{◌≡◌, refl}
use mathlib.Core.List.{List}
use Prim.Native.Nat.{ℕ}
use native.Mathlib.Omega.{arith}
use lib.ListN.{drop, length-drop}
use Rattle.cuts.specs.Lines.{lines_of}
use Rattle.summary.specs.declared.Summary.{Summary}
use Rattle.guide.specs.Terms.{Terms}
use Rattle.guide.specs.Plan.{Reply, Asked}
use Rattle.guide.specs.Guide.{write_lines_of, guide_for}
use Rattle.guide.specs.Statements.{Bounded}
use Rattle.guide.proofs.Every.{every_most, guide_every}
use Rattle.guide.proofs.FileFacts.{FileFacts}

-- whatever they ask
abbrev Any : Asked → Type 0
Any q = q ≡ q

pub bounded : (T : Terms) (file : Summary) (text : List ℕ) → FileFacts file text → (rs : List Reply) → Bounded T file text rs
unfolding Bounded guide_for write_lines_of
bounded T file text facts rs =
    omega (
      arith,
      every_most {P = Any} (guide_every {P = Any} T file (λ q o. refl) (drop 4 (lines_of text)) (λ j h. refl)) rs,
      length-drop 4 (lines_of text),
      facts.lines,
      facts.many,
    )
