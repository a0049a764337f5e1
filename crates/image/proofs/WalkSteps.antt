-- Laws of the walk over the lines. Assumes nothing.
use Rattle.std.specs.Prelude.{Some, None, Ok, Err, Option}
use Prim.Native.Nat.{ℕ, ◌+◌, ◌≤◌, ◌<◌}
use mathlib.Core.List.{List}
use mathlib.Core.Path.{◌≡◌, refl, sym, ap, ◌∙◌}
use mathlib.Core.Logic.{◌⊎◌, inl, inr, ⊎_elim}
use native.Mathlib.Omega.{arith}
use lib.ListN.{length, take, drop, drop_of_length-le}
use lib.Dec.{ltb}
use borrow.Author.Tests.{ltb-true, ltb-false}
use Rattle.counts.specs.declared.LineNumber.{LineNumber}
use Rattle.counts.specs.Counts.{line_number}
use Rattle.line.specs.declared.Line.{Line}
use Rattle.line.specs.declared.LineRefusal.{LineRefusal}
use Rattle.cuts.specs.Lines.{lines_of, line_skip}
use Rattle.line.specs.Reading.{read_line, next_by, next_of, next_line, LineReading, NextLine}
use Rattle.promise.proofs.Basics.{split}
use Rattle.cuts.proofs.FirstLine.{line_len, lines_at, next_within, next_after}
use Rattle.image.specs.declared.Facts.{Facts}
use Rattle.summary.specs.declared.Refusal.{Refusal}
use Rattle.summary.specs.declared.Refusal.TheVariants as refusal
use Rattle.image.specs.Private.Walk.{with_number, line_in, facts_with, facts_by, facts_from, Walked}

-- the text of the line at a place
abbrev pub text_at : ℕ → List ℕ → List ℕ
text_at at s = take (line_len (drop at s)) (drop at s)

-- the line at a place, by its reading
module _ (s : List ℕ) (at : ℕ) (n : LineNumber) where
  pub step_here : at < length s → next_line n at s ≡ next_by (read_line n (text_at at s)) (at + line_skip (drop at s))
  unfolding next_of
  step_here h = rw (lines_at s at h)

  pub step_past : length s ≤ at → next_line n at s ≡ Ok None
  unfolding next_of lines_of
  step_past h = rw (drop_of_length-le s h)

-- what was taken, and the place behind it
behind : NextLine → ℕ
behind (Ok None) = 0
behind (Ok (Some (l, next))) = next
behind (Err r) = 0

pub same_taken : (l m : Line) (j k : ℕ) → ◌≡◌ {A = NextLine} (Ok (Some (l, j))) (Ok (Some (m, k))) → (l ≡ m) × (j ≡ k)
unfolding line_in behind
same_taken l m j k e = (ap line_in e, ap behind e)

-- what a reading's step says of the facts, where `on` gives those of the lines that follow
module _ (f : Facts) (k : ℕ) (on : Facts → Walked) where
  end_by : (r : LineReading) → next_by r k ≡ Ok None → facts_by f r on ≡ Ok f
  unfolding next_by
  end_by (Ok l) e = cc
  end_by (Err h) e = cc

  stop_by : (r : LineReading) (g : LineRefusal) → next_by r k ≡ Err g → facts_by f r on ≡ Err (refusal.Line (line_number (f.lines + 1)) g)
  unfolding next_by facts_by
  stop_by (Ok l) g e = cc
  stop_by (Err h) g e = cc

  take_by : (r : LineReading) (l : Line) (next : ℕ) → next_by r k ≡ Ok (Some (l, next)) → (facts_by f r on ≡ on (facts_with f l)) × (next ≡ k)
  unfolding next_by facts_by
  take_by (Ok m) l next e = let t = same_taken m l k next e in (ap (λ (x : Line). on (facts_with f x)) t.0, sym t.1)
  take_by (Err h) l next e = (cc, cc)

-- what the step at a place says of the facts of the lines from there on
module _ (f : Facts) (s : List ℕ) (at : ℕ) where
  here? : (length s ≤ at) ⊎ (at < length s)
  here? = split (ltb at (length s)) (λ e. inr (ltb-true _ _ e)) (λ e. inl (ltb-false _ _ e))

  abbrev n : LineNumber
  n = line_number (f.lines + 1)

  pub facts_end : next_line n at s ≡ Ok None → facts_from f (lines_of (drop at s)) ≡ Ok f
  unfolding facts_from lines_of
  facts_end e =
      ⊎_elim (λ h. rw (drop_of_length-le s h))
      (λ h. rw (lines_at s at h) (end_by f _ _ _ (sym (step_here s at n h) ∙ e))) here?

  pub facts_stop : (g : LineRefusal) → next_line n at s ≡ Err g → facts_from f (lines_of (drop at s)) ≡ Err (refusal.Line n g)
  unfolding facts_from
  facts_stop g e =
      ⊎_elim (λ h. cc (step_past s at n h))
      (λ h. rw (lines_at s at h) (stop_by f _ _ _ g (sym (step_here s at n h) ∙ e))) here?

  pub facts_took : (l : Line) (next : ℕ) → next_line n at s ≡ Ok (Some (l, next)) →
      (facts_from f (lines_of (drop at s)) ≡ facts_from (facts_with f l) (lines_of (drop next s))) × (at < next) × (next ≤ length s)
  unfolding facts_from
  facts_took l next e =
      ⊎_elim (λ h. let z : ◌≡◌ {A = ℕ} 0 1 = cc (step_past s at n h) in absurd (let y : ⊥ = omega arith in y))
      (λ h.
      let t = take_by f _ (λ g. facts_from g (lines_of (drop (at + line_skip (drop at s)) s))) _ l next (sym (step_here s at n h) ∙ e) in
      (rw (lines_at s at h, t.1) t.0, omega (arith, t.1, next_after s at h), omega (arith, t.1, next_within s at h)))
      here?

-- the same by what is told of the step with the line's number
module _ (f : Facts) (s : List ℕ) (at : ℕ) where
  step : (x : NextLine) → next_line (line_number (f.lines + 1)) at s ≡ x → (r : Refusal) → with_number (line_number (f.lines + 1)) x ≡ Err r →
      facts_from f (lines_of (drop at s)) ≡ Err r
  unfolding with_number
  step (Ok found) e r p = let z : ◌≡◌ {A = ℕ} 0 1 = cc in absurd (let y : ⊥ = omega arith in y)
  step (Err g) e r p = let q : refusal.Line (line_number (f.lines + 1)) g ≡ r = cc in rw (← q) (facts_stop f s at g e)

  pub facts_err : (r : Refusal) → with_number (line_number (f.lines + 1)) (next_line (line_number (f.lines + 1)) at s) ≡ Err r →
      facts_from f (lines_of (drop at s)) ≡ Err r
  facts_err r p = step _ refl r p

  same_step : (x : NextLine) (found : Option (Line × ℕ)) → with_number (line_number (f.lines + 1)) x ≡ Ok found → x ≡ Ok found
  unfolding with_number
  same_step (Ok found) y e = cc
  same_step (Err g) y e = let z : ◌≡◌ {A = ℕ} 0 1 = cc in absurd (let n : ⊥ = omega arith in n)

  pub facts_ended : with_number (line_number (f.lines + 1)) (next_line (line_number (f.lines + 1)) at s) ≡ Ok None →
      facts_from f (lines_of (drop at s)) ≡ Ok f
  facts_ended e = facts_end f s at (same_step _ _ e)

  pub facts_went : (l : Line) (next : ℕ) → with_number (line_number (f.lines + 1)) (next_line (line_number (f.lines + 1)) at s) ≡ Ok (Some (l, next)) →
      (facts_from f (lines_of (drop at s)) ≡ facts_from (facts_with f l) (lines_of (drop next s))) × (at < next) × (next ≤ length s)
  facts_went l next e = facts_took f s at l next (same_step _ _ e)

pub with_lines : (f : Facts) (l : Line) → (facts_with f l).lines ≡ f.lines + 1
unfolding facts_with
with_lines f l = refl
