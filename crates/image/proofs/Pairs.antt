-- Laws of the search for equal identifiers. Assumes nothing.
use Prim.Native.Nat.{ℕ, ◌+◌, ◌<◌}
use mathlib.Core.Bool.{true, false}
use mathlib.Core.List.{List}
use mathlib.Core.Path.{◌≡◌}
use lib.Dec.{eqb}
use Rattle.counts.specs.declared.ConfigId.{ConfigId}
use Rattle.image.specs.Private.Walk.{id_at, same_at, same_in}
use Rattle.image.proofs.Search.{below_on, below_found}

module _ (ids : List ConfigId) where
  pub at_on : (i j : ℕ) → same_at ids i j ≡ false → eqb (id_at ids i) (id_at ids j) ≡ false → same_at ids i (j + 1) ≡ false
  unfolding same_at
  at_on i j p q = below_on (λ m. eqb (id_at ids i) (id_at ids m)) j p q

  pub in_on : (i : ℕ) → same_in ids i ≡ false → same_at ids i i ≡ false → same_in ids (i + 1) ≡ false
  unfolding same_in
  in_on i p q = below_on (λ x. same_at ids x x) i p q

  -- an equal pair is found
  pub in_found : (i j k : ℕ) → j < i → i < k → eqb (id_at ids i) (id_at ids j) ≡ true → same_in ids k ≡ true
  unfolding same_in same_at
  in_found i j k g h p = below_found (λ x. same_at ids x x) i k h (below_found (λ m. eqb (id_at ids i) (id_at ids m)) j i g p)
