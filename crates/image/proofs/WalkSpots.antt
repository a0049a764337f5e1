-- The spots of the first k configurations are what the formulas say of their lines. Assumes nothing.
use Rattle.std.specs.Prelude.{Some, None}
use mathlib.Core.Path.{◌≡◌, refl, ap}
use mathlib.Core.Bool.{Bool, true, false, cond}
use mathlib.Core.List.{List}
use Prim.Native.Nat.{ℕ, zero, suc, ◌≤◌, ◌<◌}
use native.Mathlib.Omega.{arith}
use lib.Dec.{eqb}
use Rattle.counts.specs.declared.Kind.{Kind}
use Rattle.counts.specs.declared.ConfigId.{ConfigId}
use Rattle.counts.specs.Counts.{config_id}
use Rattle.image.specs.Says.{id_of, crc_of, eight_of}
use Rattle.image.specs.Tests.{some_below}
use Rattle.image.specs.Private.Walk.{id_line_at, crc_line_at, no_spots, spots_with, spots_to, id_at, same_at, same_in}
use Rattle.image.proofs.Search.{below_same}
use Rattle.image.proofs.Eight.{eight_none, eight_next, eight_at}

-- what is found where a test is false, and nothing where it is true
pub found_off : {A : Type 0} (t : Bool) (x y : A) → cond t None (Some x) ≡ Some y → (t ≡ false) × (x ≡ y)
found_off true x y e = let z : ◌≡◌ {A = ℕ} 0 1 = cc in absurd (let n : ⊥ = omega arith in n)
found_off false x y e = (refl, cc)

pub none_on : {A : Type 0} (t : Bool) (x : A) → cond t None (Some x) ≡ None → t ≡ true
none_on true x e = refl
none_on false x e = let z : ◌≡◌ {A = ℕ} 0 1 = cc in absurd (let n : ⊥ = omega arith in n)

module _ (kind : Kind) (s : List ℕ) where
  pub ids_are : (k : ℕ) → k ≤ 8 → (spots_to kind s k).ids ≡ eight_of k (λ N. id_of (id_line_at kind s N)) (config_id 0)
  unfolding spots_to spots_with no_spots
  ids_are zero h = eight_none (λ N. id_of (id_line_at kind s N)) (config_id 0)
  ids_are (suc k) h = rw (ids_are k (omega arith)) (eight_next (λ N. id_of (id_line_at kind s N)) (config_id 0) k (omega arith))

  pub crcs_are : (k : ℕ) → k ≤ 8 → (spots_to kind s k).crcs ≡ eight_of k (λ N. crc_of (crc_line_at kind s N)) 0
  unfolding spots_to spots_with no_spots
  crcs_are zero h = eight_none (λ N. crc_of (crc_line_at kind s N)) 0
  crcs_are (suc k) h = rw (crcs_are k (omega arith)) (eight_next (λ N. crc_of (crc_line_at kind s N)) 0 k (omega arith))

-- the search over pairs of places is that over pairs of configurations
pub same_is : (f : ℕ → ConfigId) (k : ℕ) → k ≤ 8 →
    same_in (eight_of k f (config_id 0)) k ≡ some_below k λ i. some_below i λ j. eqb (f i).0 (f j).0
unfolding same_in same_at
same_is f k h = below_same k _ _ (λ i g. below_same i _ _ (λ j l. rw (at i g, at j (omega arith))))
  where
    at : (i : ℕ) → i < k → id_at (eight_of k f (config_id 0)) i ≡ (f i).0
    at i g = ap (λ (x : ConfigId). x.0) (eight_at f (config_id 0) k i h g)
