-- The answer by the tests of the whole file is the first row of its table that applies, and none applies where it accepts. Assumes nothing.
use mathlib.Core.Path.{◌≡◌, refl, sym, ◌∙◌}
use mathlib.Core.List.{List, [], ◌∷◌}
use Prim.Native.Nat.{ℕ, ◌≤◌}
use native.Mathlib.Omega.{arith}
use lib.Dec.{lit≤}
use lib.ListN.{length, get_or, drop}
use Rattle.summary.specs.declared.Whole.TheVariants.{Count, Revision, Device, Burn, Spot, Same}
use Rattle.image.specs.Tests.{too_few, other_revision, other_device, fits_none, burn_amiss, other_spot, same_ids}
use Rattle.image.specs.Check.{first_refusal, whole_answers}
use Rattle.image.specs.Meets.{Laid, Spelled}
use Rattle.image.specs.FileTable.{WholeTable, COUNT_13, REVISION, DEVICE, COUNT_n, BURN, SPOT, SAME}
use Rattle.image.proofs.LinesAndBytes.{Forms}
use Rattle.image.proofs.LaidOut.{laid_out}
use Rattle.image.proofs.FirstRow.{NoneBefore, Ends, in_turn, at_end}
use Rattle.image.proofs.WholeRows.{many_lines, few_row, few_not, revision_row, revision_not, device_row, device_not, count_row, count_not}
use Rattle.image.proofs.WholeRows.{burn_row, burn_not, spot_row, spot_not, same_row, same_not}

-- ---- the turns and the numbers of the table

module _ {vs : List (List ℕ)} where
  turn_within : {i m : ℕ} → WholeTable vs i m → (1 ≤ i) × (i ≤ 7)
  turn_within (COUNT_13 h) = (lit≤ tt, lit≤ tt)
  turn_within (REVISION f) = (lit≤ tt, lit≤ tt)
  turn_within (DEVICE f) = (lit≤ tt, lit≤ tt)
  turn_within (COUNT_n f) = (lit≤ tt, lit≤ tt)
  turn_within (BURN f) = (lit≤ tt, lit≤ tt)
  turn_within (SPOT l N h f) = (lit≤ tt, lit≤ tt)
  turn_within (SAME l i j g h e) = (lit≤ tt, lit≤ tt)

  number_at : {i m : ℕ} → WholeTable vs i m → get_or (0 ∷ 7 ∷ 8 ∷ 9 ∷ 7 ∷ 10 ∷ 11 ∷ 13 ∷ []) i 0 ≡ m
  number_at (COUNT_13 h) = refl
  number_at (REVISION f) = refl
  number_at (DEVICE f) = refl
  number_at (COUNT_n f) = refl
  number_at (BURN f) = refl
  number_at (SPOT l N h f) = refl
  number_at (SAME l i j g h e) = refl

  -- at each turn there is one number
  pub one_number : (i a b : ℕ) → WholeTable vs i a → WholeTable vs i b → a ≡ b
  one_number i a b x y = sym (number_at x) ∙ number_at y

-- ---- the walk over the tests

module _ {ls vs : List (List ℕ)} (spelled : Spelled ls vs) (forms : Forms vs) where
  -- from the fifth on, of a file that is laid out
  laid_ends : 13 ≤ length vs → Laid vs → NoneBefore (WholeTable vs) 5 → Ends (WholeTable vs) (first_refusal (drop 4 (whole_answers ls)))
  unfolding whole_answers
  laid_ends many l before =
      in_turn (burn_amiss ls) Burn _ before (burn_row spelled forms many) (burn_not spelled forms many)
      (λ burn before. in_turn (other_spot ls) Spot _ before (spot_row spelled forms l) (spot_not spelled forms)
      (λ spots before. in_turn (same_ids ls) Same [] before (same_row spelled forms l) (same_not spelled forms)
      (λ differ before. at_end before (λ i m row. omega (arith, (turn_within row).1)))))

  pub whole_ends : Ends (WholeTable vs) (first_refusal (whole_answers ls))
  unfolding whole_answers
  whole_ends =
      in_turn (too_few ls) Count _ (λ i m h row. omega (arith, (turn_within row).0)) (few_row spelled forms) (few_not spelled forms)
      (λ few before. let many = many_lines spelled forms few in
      in_turn (other_revision ls) Revision _ before (revision_row spelled forms many) (revision_not spelled forms many)
      (λ revision before. in_turn (other_device ls) Device _ before (device_row spelled forms many) (device_not spelled forms many)
      (λ device before. in_turn (fits_none ls) Count _ before (count_row spelled forms)
      (λ fits. count_not spelled forms (laid_out spelled forms many revision fits))
      (λ fits before. laid_ends many (laid_out spelled forms many revision fits) before))))
