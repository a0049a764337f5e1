-- Where every line is good, the text holds them one behind the other, and each is found by its number. Assumes nothing.
use Rattle.std.specs.Prelude.{Some, None, Ok, Err}
use mathlib.Core.Path.{◌≡◌, refl, sym, ◌∙◌}
use mathlib.Core.List.{List, [], ◌∷◌}
use Prim.Native.Nat.{ℕ, zero, suc, ◌+◌, ◌-◌, ◌≤◌}
use native.Mathlib.Omega.{arith}
use lib.ListN.{length, get_or, drop, drop_of_length-le}
use lib.Dec.{ltb}
use borrow.Author.Tests.{ltb-true, ltb-false}
use Rattle.counts.specs.declared.LineNumber.{LineNumber}
use Rattle.counts.specs.Counts.{line_number}
use Rattle.line.specs.declared.Line.{Line}
use Rattle.cuts.specs.Lines.{lines_of, line_skip, place_of}
use Rattle.line.specs.Reading.{read_line, next_by, next_of, next_line, LineReading}
use Rattle.promise.proofs.Basics.{split}
use Rattle.cuts.proofs.FirstLine.{lines_at, place_on, place_none}
use Rattle.image.specs.declared.Facts.{Facts}
use Rattle.image.specs.Private.Walk.{no_line, line_in, facts_with, facts_from, line_at}
use Rattle.image.proofs.Holds.{Holds}
use Rattle.image.proofs.WalkSteps.{same_taken, text_at, step_here, step_past}
use Rattle.image.proofs.SpotPlaces.{place_from}
use Rattle.image.proofs.WalkSays.{line_says, says_of, goes}

module _ (s : List ℕ) where
  behind : (at : ℕ) (l : List ℕ) (ls : List (List ℕ)) → lines_of (drop at s) ≡ l ∷ ls → lines_of (drop (at + line_skip (drop at s)) s) ≡ ls
  unfolding lines_of
  behind at l ls e =
      split (ltb at (length s)) (λ h. cc (lines_at s at (ltb-true at (length s) h)))
      (λ h. let z : [] ≡ l ∷ ls = rw (drop_of_length-le s (ltb-false at (length s) h)) at e in cc)

  pub held : (ts : List (List ℕ)) (at : ℕ) (f g : Facts) → lines_of (drop at s) ≡ ts → facts_from f ts ≡ Ok g →
      Holds s at (f.lines + 1) (says_of ts)
  unfolding next_of next_by Holds facts_with says_of
  held [] at f g e p = rw e
  held (t ∷ ts) at f g e p =
      let r = goes f g t ts p in
      (at + line_skip (drop at s), rw (e, r.reads), held ts _ (facts_with f (line_says t)) g (behind at t ts e) r.rest)

  -- ---- without the first lines
  next_is : (at : ℕ) (l : Line) (next : ℕ) (r : LineReading) → next_by r (at + line_skip (drop at s)) ≡ Ok (Some (l, next)) → next ≡ at + line_skip (drop at s)
  unfolding next_by
  next_is at l next (Ok m) e = sym (same_taken m l _ next e).1
  next_is at l next (Err g) e = cc

  took_next : (n : LineNumber) (at : ℕ) (l : Line) (next : ℕ) (ls : List (List ℕ)) → lines_of (drop at s) ≡ ls →
      next_of n (at + line_skip (drop at s)) ls ≡ Ok (Some (l, next)) → next ≡ at + line_skip (drop at s)
  unfolding next_of
  took_next n at l next [] p e = cc
  took_next n at l next (t ∷ ls) p e = next_is at l next (read_line n t) e

  none : (n : ℕ) → n + zero ≡ n
  none n = omega arith

  at_none : (at : ℕ) → at + place_of zero (drop at s) ≡ at
  at_none at = omega (arith, place_none zero (drop at s) (omega arith))

  pub holds-drop : (k : ℕ) (ls : List Line) (at n : ℕ) → k ≤ length ls → Holds s at n ls →
      Holds s (at + place_of k (drop at s)) (n + k) (drop k ls)
  unfolding Holds
  holds-drop zero ls at n h p = rw (at_none at, none n) p
  holds-drop (suc k) [] at n h p = absurd (let y : ⊥ = omega arith in y)
  holds-drop (suc k) (l ∷ ls) at n h p =
      let q : p.0 ≡ at + line_skip (drop at s) = took_next (line_number n) at l p.0 _ refl p.1 in
      let e : suc k - 1 ≡ k = omega arith in
      let f : n + suc k ≡ n + 1 + k = omega arith in
      rw (place_on s at (suc k) (omega arith), e, f, ← q) (holds-drop k ls p.0 (n + 1) (omega arith) p.2)

  -- ---- each line by its number
  end_past : (at : ℕ) (n : LineNumber) → next_line n at s ≡ Ok None → length s ≤ at
  unfolding next_by
  end_past at n e =
      split (ltb at (length s))
      (λ h. no_end (at + line_skip (drop at s)) (read_line n (text_at at s)) (sym (step_here s at n (ltb-true at (length s) h)) ∙ e)) (ltb-false at (length s))
    where
      no_end : {A : Type 0} (k : ℕ) (r : LineReading) → next_by r k ≡ Ok None → A
      no_end k (Ok m) e = let z : ◌≡◌ {A = ℕ} 0 1 = cc in absurd (let y : ⊥ = omega arith in y)
      no_end k (Err g) e = let z : ◌≡◌ {A = ℕ} 0 1 = cc in absurd (let y : ⊥ = omega arith in y)

  line_from : (k : ℕ) (ls : List Line) (at n : ℕ) → Holds s at n ls →
      line_in (next_line (line_number (n + k)) (at + place_of k (drop at s)) s) ≡ get_or ls k no_line
  unfolding Holds line_in
  line_from zero [] at n p = rw (at_none at, none n, p)
  line_from zero (l ∷ ls) at n p = rw (at_none at, none n, p.1)
  line_from (suc k) [] at n p =
      rw (step_past s (at + place_of (suc k) (drop at s)) (line_number (n + suc k)) (omega (arith, end_past at (line_number n) p)))
  line_from (suc k) (l ∷ ls) at n p =
      let q : p.0 ≡ at + line_skip (drop at s) = took_next (line_number n) at l p.0 _ refl p.1 in
      let e : suc k - 1 ≡ k = omega arith in
      let f : n + suc k ≡ n + 1 + k = omega arith in
      rw (place_on s at (suc k) (omega arith), e, f, ← q) (line_from k ls p.0 (n + 1) p.2)

  pub line_is : (ls : List Line) → Holds s 0 1 ls → (n : ℕ) → 1 ≤ n → line_at (line_number n) s ≡ get_or ls (n - 1) no_line
  unfolding line_at
  line_is ls p n h =
      let e : 1 + (n - 1) ≡ n = omega arith in
      rw (e, place_from (n - 1) s) at (line_from (n - 1) ls 0 1 p)
