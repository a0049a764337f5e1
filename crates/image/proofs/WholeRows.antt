-- Each row of the table for the whole file by its test: it applies where the test is true, and not where it is false. The rows stand
-- in their turn, so what an earlier test gave is at hand. Assumes nothing.
use mathlib.Core.Path.{◌≡◌, refl, sym, ap, ◌∙◌}
use mathlib.Core.Logic.{inl, inr}
use mathlib.Core.Bool.{true, false, false≢true}
use mathlib.Core.List.{List, [], ◌∷◌, Memᴰ}
use Prim.Native.Nat.{ℕ, ◌≤◌}
use native.Mathlib.Omega.{arith}
use lib.ListN.{length}
use borrow.Author.Tests.{ltb-true, ltb-false, not-false}
use Rattle.counts.specs.declared.Kind.{Kind}
use Rattle.counts.specs.Counts.{line_number, kind_of}
use Rattle.image.specs.Tests.{is_unknown, known_device, too_few, other_revision, other_device, fits_none, burn_amiss, other_spot, same_ids}
use Rattle.image.specs.Meets.{KindHas, legacy0, legacy1, production6, production7, data_in, numbered, Laid, Spelled}
use Rattle.image.specs.FileTable.{WholeTable, COUNT_13, REVISION, DEVICE, COUNT_n, BURN, SPOT, SAME}
use Rattle.image.proofs.Counting.{kind_has}
use Rattle.image.proofs.LineBytes.{known_bytes}
use Rattle.image.proofs.LinesAndBytes.{Forms, spelled-length, says}
use Rattle.image.proofs.LaidOut.{said}
use Rattle.image.proofs.WholeTests.{burn_last_lem, burn_amiss_lem, spots_c6, spot_amiss, ids_differ, ids_same}
use Rattle.image.proofs.MeetsPass.{device_passes, count_passes}

-- ---- the first bytes of a revision that are known

abbrev Listed : ℕ → Type 0
Listed b = Memᴰ b (0x00 ∷ 0x01 ∷ 0x06 ∷ 0x07 ∷ [])

kind_listed : {b : ℕ} {kind : Kind} {step place : ℕ} → KindHas b kind step place → Listed b
kind_listed legacy0 = Memᴰ.head refl
kind_listed legacy1 = Memᴰ.tail (Memᴰ.head refl)
kind_listed production6 = Memᴰ.tail (Memᴰ.tail (Memᴰ.head refl))
kind_listed production7 = Memᴰ.tail (Memᴰ.tail (Memᴰ.tail (Memᴰ.head refl)))

listed_known : {b : ℕ} → Listed b → is_unknown (kind_of b) ≡ false
unfolding kind_of is_unknown
listed_known (Memᴰ.head e) = rw e
listed_known (Memᴰ.tail (Memᴰ.head e)) = rw e
listed_known (Memᴰ.tail (Memᴰ.tail (Memᴰ.head e))) = rw e
listed_known (Memᴰ.tail (Memᴰ.tail (Memᴰ.tail (Memᴰ.head e)))) = rw e
listed_known (Memᴰ.tail (Memᴰ.tail (Memᴰ.tail (Memᴰ.tail m)))) = elim m [ ]

module _ {ls vs : List (List ℕ)} (spelled : Spelled ls vs) (forms : Forms vs) where
  -- ---- 7 for under 13 lines

  pub many_lines : too_few ls ≡ false → 13 ≤ length vs
  unfolding too_few
  many_lines e = omega (arith, spelled-length spelled, ltb-false (length ls) 13 e)

  pub few_row : too_few ls ≡ true → WholeTable vs 1 7
  unfolding too_few
  few_row e = COUNT_13 (omega (arith, spelled-length spelled, ltb-true (length ls) 13 e))

  pub few_not : too_few ls ≡ false → (m : ℕ) → WholeTable vs 1 m → ⊥
  few_not e m (COUNT_13 h) = let many = many_lines e in omega arith

  module _ (many : 13 ≤ length vs) where
    -- ---- 8

    pub revision_row : other_revision ls ≡ true → WholeTable vs 2 8
    unfolding other_revision
    revision_row e = REVISION (λ m. false≢true (sym (listed_known m) ∙ ap is_unknown (sym (said spelled forms many)) ∙ e))

    pub revision_not : other_revision ls ≡ false → (m : ℕ) → WholeTable vs 2 m → ⊥
    unfolding other_revision
    revision_not e m (REVISION f) = f (kind_listed (kind_has (data_in 0 (numbered vs 2)) (ap is_unknown (sym (said spelled forms many)) ∙ e)))

    -- ---- 9

    pub device_row : other_device ls ≡ true → WholeTable vs 3 9
    device_row e = DEVICE (λ a. false≢true (sym (device_passes spelled forms (omega arith) a) ∙ e))

    pub device_not : other_device ls ≡ false → (m : ℕ) → WholeTable vs 3 m → ⊥
    unfolding other_device
    device_not e m (DEVICE f) =
        f (known_bytes (forms 1 (omega arith) (omega arith)) (omega arith) (ap known_device (sym (says spelled (line_number 1))) ∙ not-false _ e))

    -- ---- 10

    pub burn_row : burn_amiss ls ≡ true → WholeTable vs 5 10
    burn_row e = BURN (burn_amiss_lem spelled forms (omega arith) e)

    pub burn_not : burn_amiss ls ≡ false → (m : ℕ) → WholeTable vs 5 m → ⊥
    burn_not e m (BURN (inl f)) = f (burn_last_lem spelled forms (omega arith) e).last
    burn_not e m (BURN (inr (n, g, h, b))) = (burn_last_lem spelled forms (omega arith) e).once n g h b

  -- ---- 7 for n

  pub count_row : fits_none ls ≡ true → WholeTable vs 4 7
  count_row e = COUNT_n (λ l. false≢true (sym (count_passes spelled forms l) ∙ e))

  module _ (l : Laid vs) where
    pub count_not : (m : ℕ) → WholeTable vs 4 m → ⊥
    count_not m (COUNT_n f) = f l

    -- ---- 11

    pub spot_row : other_spot ls ≡ true → WholeTable vs 6 11
    spot_row e = let q = spot_amiss spelled forms l e in SPOT l q.0 q.1 q.2

    -- ---- 13

    pub same_row : same_ids ls ≡ true → WholeTable vs 7 13
    same_row e = let q = ids_same spelled forms l e in SAME l q.0 q.1 q.2 q.3 q.4

  -- for any layout
  pub spot_not : other_spot ls ≡ false → (m : ℕ) → WholeTable vs 6 m → ⊥
  spot_not e m (SPOT l N h (inl f)) = f (spots_c6 spelled forms l e N h).0
  spot_not e m (SPOT l N h (inr f)) = f (spots_c6 spelled forms l e N h).1

  pub same_not : same_ids ls ≡ false → (m : ℕ) → WholeTable vs 7 m → ⊥
  same_not e m (SAME l i j g h q) = ids_differ spelled forms l e i j g h q
