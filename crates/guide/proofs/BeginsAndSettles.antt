-- Of every plan: the list for some replies begins the list for more, and nothing changes behind the verdict; and only 31 tells a
-- configuration. Assumes nothing.
use mathlib.Core.Path.{◌≡◌, refl, ap}
use mathlib.Core.List.{List, [], ◌∷◌}
use Prim.Native.Nat.{ℕ}
use native.Mathlib.Omega.{arith}
use Rattle.summary.specs.declared.Refusal.TheVariants.{Line, Whole}
use Rattle.guide.specs.declared.Verdict.{Verdict}
use Rattle.guide.specs.declared.Verdict.TheVariants.{Done, Setting, File, Mismatch, Halted, State}
use Rattle.guide.specs.Plan.{Reply, Asked, Plan, ask, done, requests, verdict}
use Rattle.guide.specs.Statements.{Begins, Settled, OnlyMismatch}

pub begins : (p : Plan) (rs later : List Reply) → Begins p rs later
unfolding Begins requests
begins (done v) rs later = ([], refl)
begins (ask q next) [] [] = ([], refl)
begins (ask q next) [] (r ∷ later) = (requests (next r) later, refl)
begins (ask q next) (r ∷ rs) later = let b = begins (next r) rs later in (b.0, ap (λ (l : List Asked). q ∷ l) b.1)

pub settled : (p : Plan) (rs later : List Reply) → Settled p rs later
unfolding Settled requests verdict
settled (done v) rs later w e = (e, refl)
settled (ask q next) [] later w e = let z : ◌≡◌ {A = ℕ} 0 1 = cc in absurd (let y : ⊥ = omega arith in y)
settled (ask q next) (r ∷ rs) later w e = let b = settled (next r) rs later w e in (b.0, ap (λ (l : List Asked). q ∷ l) b.1)

pub only_mismatch : (v : Verdict) → OnlyMismatch v
unfolding OnlyMismatch
only_mismatch Done h = refl
only_mismatch Setting h = refl
only_mismatch (File (Line n fault)) h = refl
only_mismatch (File (Whole w)) h = refl
only_mismatch (Halted r) h = refl
only_mismatch (Mismatch N) h = absurd (h refl)
only_mismatch State h = refl
