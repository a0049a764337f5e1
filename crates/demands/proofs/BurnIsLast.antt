-- The last write line of a file that meets the document goes out as the burn. Assumes nothing.
use mathlib.Core.Path.{◌≡◌, refl, ap, ◌∙◌}
use mathlib.Core.List.{List, [], ◌∷◌, ◌++◌}
use Prim.Native.Nat.{ℕ, suc, ◌+◌, ◌-◌, ◌≤◌}
use native.Mathlib.Omega.{arith}
use lib.ListN.{length, get_or, drop, length-drop}
use lib.Seq.{get_or-drop}
use Rattle.image.specs.Meets.{numbered, Meets}
use Rattle.image.proofs.LaidOut.{laid_many}
use Rattle.bus.specs.declared.Request.{Request}
use Rattle.guide.specs.Wire.{Wire, RightAt}
use Rattle.guide.proofs.LineBytes.{burn_out}
use Rattle.demands.specs.Headline.{lines_out}

abbrev last_of : List (List ℕ) → List ℕ
last_of vs = get_or vs (length vs - 1) []

last_off : (vs : List (List ℕ)) → 1 ≤ length vs → (before : List (List ℕ)) × (vs ≡ before ++ (last_of vs ∷ []))
last_off [] h = absurd (let y : ⊥ = omega arith in y)
last_off (v ∷ []) h = ([], refl)
last_off (v ∷ u ∷ vs) h =
    let k = last_off (u ∷ vs) (omega arith) in
    let e : suc (suc (length vs)) - 1 ≡ suc (suc (length vs) - 1) = omega arith in
    (v ∷ k.0, rw e (ap (λ (l : List (List ℕ)). v ∷ l) k.1))

out_both : (W : Wire) (a b : List (List ℕ)) → lines_out W (a ++ b) ≡ lines_out W a ++ lines_out W b
unfolding lines_out
out_both W [] b = refl
out_both W (v ∷ a) b = ap (λ (l : List Request). W.line v ∷ l) (out_both W a b)

module _ {address : ℕ} {W : Wire} (right : RightAt address W) {text : List ℕ} (m : Meets text) where
  abbrev vs : List (List ℕ)
  vs = m.values

  many : 13 ≤ length vs
  many = laid_many m.meets.laid

  pub last_burns : W.line (last_of (drop 4 vs)) ≡ W.burn
  last_burns =
      let long = length-drop 4 vs in
      let e : 4 + (length (drop 4 vs) - 1) ≡ length vs - 1 = omega (arith, many) in
      let is : last_of (drop 4 vs) ≡ numbered vs (length vs) = rw (get_or-drop 4 vs (length (drop 4 vs) - 1) [], e) in
      rw is
      (burn_out address W right (length vs) (numbered vs (length vs)) (omega (arith, many)) (m.meets.form (length vs) (omega (arith, many)) (omega arith))
      m.meets.burn_last)

  pub burn_is_last : (lines : List Request) × (lines_out W (drop 4 vs) ≡ lines ++ (W.burn ∷ []))
  unfolding lines_out
  burn_is_last =
      let long = length-drop 4 vs in
      let k = last_off (drop 4 vs) (omega (arith, many)) in
      (lines_out W k.0, ap (lines_out W) k.1 ∙ (out_both W k.0 _ ∙ rw last_burns))
