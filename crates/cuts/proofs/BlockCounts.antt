-- Lines skipped by the ends that a block of bytes has. Assumes nothing.
use Rattle.std.proofs.Common.{◌≡◌, ◌∙◌, ◌==◌, ℕ, zero, suc, ◌+◌, ◌-◌, ◌<◌, ◌≤◌, true, false, cond}
use Rattle.std.proofs.Common.{List, [], ◌∷◌, ◌++◌, length, drop, count_by, sym, ap, arith, length-append, length-drop, drop_at, drop-drop}
use Rattle.std.proofs.lemmas.List.Sums.{sum_by-cons}
use Rattle.cuts.specs.Lines.{line_skip, place_of}
use Rattle.promise.proofs.Basics.{split}

-- ---- one byte on

module _ (k b : ℕ) (t : List ℕ) where
  place_lf : (b == 10) ≡ true → place_of (suc k) (b ∷ t) ≡ suc (place_of k t)
  unfolding place_of line_skip
  place_lf e = simp e (omega arith)

  place_other : (b == 10) ≡ false → place_of (suc k) (b ∷ t) ≡ suc (place_of (suc k) t)
  unfolding place_of line_skip
  place_other e = simp e (omega arith)

-- ---- a block on

abbrev ends : List ℕ → ℕ
ends block = count_by (λ b. b == 10) block

ends_on : (b : ℕ) (block : List ℕ) → ends (b ∷ block) ≡ cond (b == 10) 1 0 + ends block
ends_on b block = sum_by-cons (λ x. cond (x == 10) 1 0) b block

block_on : (block t : List ℕ) (k : ℕ) → ends block < k → place_of k (block ++ t) ≡ length block + place_of (k - ends block) t
block_on [] t k l = let e : k - 0 ≡ k = omega arith in rw e (omega arith)
block_on (b ∷ block) t zero l = absurd (let z : ⊥ = omega arith in z)
block_on (b ∷ block) t (suc k) l =
    split (b == 10)
    (λ e.
    let more : ends (b ∷ block) ≡ suc (ends block) = ends_on b block ∙ simp e (omega arith) in
    let less : suc k - ends (b ∷ block) ≡ k - ends block = omega arith in
    rw (less, place_lf k b (block ++ t) e) (omega (arith, block_on block t k (omega arith))))
    (λ e.
    let same : ends (b ∷ block) ≡ ends block = ends_on b block ∙ simp e (omega arith) in
    rw (same, place_other k b (block ++ t) e) (omega (arith, block_on block t (suc k) (omega arith))))

-- from a place in a text, whose rest begins with the block
pub skip_block : (s : List ℕ) (past m left : ℕ) (block : List ℕ) {rest t : List ℕ} → past ≤ length s → rest ≡ drop past s →
    rest ≡ block ++ t → length block ≡ m → ends block < left →
    (past + m ≤ length s) × (t ≡ drop (past + m) s)
    × (past + place_of left (drop past s) ≡ past + m + place_of (left - ends block) (drop (past + m) s))
skip_block s past m left block {rest} {t} h r e long l =
    let cut : drop past s ≡ block ++ t = sym r ∙ e in
    let behind : t ≡ drop (past + m) s =
    sym (drop_at block t m long) ∙ ap (drop m) (sym cut) ∙ drop-drop m past s in
    let room : past + m ≤ length s = omega (arith, length-drop past s, ap length cut, length-append block t) in
    (room, behind, rw (← behind, cut) (omega (arith, block_on block t left l)))
