-- Of 23 to 28 only 28 looks at places and configurations: any other row applies alike to every file of the kind and the identity,
-- whatever number of places is kept free. Assumes nothing.
use mathlib.Core.Path.{◌≡◌, refl, sym, ◌∙◌}
use mathlib.Core.Logic.{◌⊎◌, inl, inr}
use Prim.Native.Nat.{ℕ, ◌+◌, ◌<◌}
use native.Mathlib.Omega.{arith}
use Rattle.guide.specs.declared.Target.{Target}
use Rattle.guide.specs.declared.Words.{Words}
use Rattle.guide.specs.Verdicts.{FitTable, COUNTER, IDENTITY, FLAG, OLD, KIND, PLACES}

module _ {t u : Target} (kind_is : u.kind ≡ t.kind) (identity_is : u.identity ≡ t.identity) {kept less : ℕ} {read : Words} where
  pub carried : {m N : ℕ} → FitTable t kept read m N
      → ((m < 28) × FitTable u less read m N) ⊎ ((m ≡ 28) × (N ≡ 0) × (read.counter < t.configs + kept))
  carried (COUNTER h) = inl (omega arith, COUNTER h)
  carried (IDENTITY f) = inl (omega arith, IDENTITY (λ e. f (e ∙ identity_is)))
  carried (FLAG f) = inl (omega arith, FLAG f)
  carried (OLD h) = inl (omega arith, OLD h)
  carried (KIND kind w f) = inl (omega arith, KIND kind w (λ e. f (sym kind_is ∙ e)))
  carried (PLACES h) = inr (refl, refl, h)
