-- What the walk's facts say of the lines: how many there are, and where the burn stands. Assumes nothing.
use Rattle.std.specs.Prelude.{Ok}
use mathlib.Core.Path.{◌≡◌, refl, ◌∙◌}
use mathlib.Core.Bool.{Bool, true, false, cond}
use mathlib.Core.List.{List, [], ◌∷◌}
use Prim.Native.Nat.{ℕ, zero, suc, ◌+◌, ◌-◌, ◌<◌}
use native.Mathlib.Omega.{arith}
use lib.ListN.{length, get_or, drop}
use Rattle.line.specs.declared.Line.{Line}
use Rattle.image.specs.declared.Facts.{Facts}
use Rattle.image.specs.Says.{line_no}
use Rattle.summary.specs.Burn.{is_burn}
use Rattle.image.specs.Tests.{some_below, burn_at, burn_amiss}
use Rattle.image.specs.Private.Walk.{no_line, start, facts_with, burn_amiss_in, facts_from}
use Rattle.image.proofs.Holds.{BurnLast}
use Rattle.promise.proofs.Basics.{or_none}
use Rattle.image.proofs.Search.{or_false, must_pass, below_first}
use Rattle.image.proofs.WalkSays.{line_says, says_of, says-length, says_at, goes}

-- the facts of some good lines
unfoldable pub facts_of : Facts → List Line → Facts
facts_of f [] = f
facts_of f (l ∷ ls) = facts_of (facts_with f l) ls

pub facts_are : (ts : List (List ℕ)) (f g : Facts) → facts_from f ts ≡ Ok g → g ≡ facts_of f (says_of ts)
unfolding facts_from facts_of says_of
facts_are [] f g p = cc
facts_are (t ∷ ts) f g p = facts_are ts (facts_with f (line_says t)) g (goes f g t ts p).rest

pub lines_of_lem : (f : Facts) (ls : List Line) → (facts_of f ls).lines ≡ f.lines + length ls
unfolding facts_of facts_with
lines_of_lem f [] = omega arith
lines_of_lem f (l ∷ ls) = omega (arith, lines_of_lem (facts_with f l) ls)

-- ---- the last line, and those before it
burnt_is : (f : Facts) (l : Line) (ls : List Line) → (facts_of f (l ∷ ls)).burnt ≡ is_burn (get_or (l ∷ ls) (length ls) no_line)
unfolding facts_of facts_with
burnt_is f l [] = refl
burnt_is f l (m ∷ ls) = burnt_is (facts_with f l) m ls

either_either : (a b c : Bool) → cond (cond a true b) true c ≡ cond b true (cond a true c)
either_either true true c = refl
either_either true false c = refl
either_either false b c = refl

early_is : (f : Facts) (l : Line) (ls : List Line) →
    (facts_of f (l ∷ ls)).early ≡ cond (cond f.burnt true f.early) true (some_below (length ls) λ i. is_burn (get_or (l ∷ ls) i no_line))
unfolding facts_of facts_with some_below
early_is f l [] = or_none (cond f.burnt true f.early)
early_is f l (m ∷ ls) =
    early_is (facts_with f l) m ls
    ∙ rw (below_first (λ i. is_burn (get_or (l ∷ m ∷ ls) i no_line)) (length ls))
    (either_either (is_burn l) (cond f.burnt true f.early) (some_below (length ls) λ i. is_burn (get_or (m ∷ ls) i no_line)))

-- the test on the facts is the test on the lines
burn_at_lem : (ts : List (List ℕ)) → burn_at ts ≡ (λ i. is_burn (get_or (says_of ts) i no_line))
unfolding burn_at line_no
burn_at_lem ts j i = at i j
  where
    at : (i : ℕ) → is_burn (line_says (get_or ts (i + 1 - 1) [])) ≡ is_burn (get_or (says_of ts) i no_line)
    at i = let e : i + 1 - 1 ≡ i = omega arith in rw (e, says_at ts i)

pub burn_amiss_lem : (ts : List (List ℕ)) → 0 < length ts → burn_amiss_in (facts_of start (says_of ts)) ≡ burn_amiss ts
unfolding burn_amiss_in burn_amiss says_of start
burn_amiss_lem [] h = absurd (let y : ⊥ = omega arith in y)
burn_amiss_lem (t ∷ ts) h =
    let l = line_says t in
    let ls = says_of ts in
    let e : length (t ∷ ts) - 1 ≡ length ls = omega (arith, says-length ts) in
    rw (burn_at_lem (t ∷ ts), e, burnt_is start l ls, early_is start l ls)

early_before : (f : Facts) (ls : List Line) → (facts_of f ls).early ≡ false → f.early ≡ false
unfolding facts_of facts_with
early_before f [] e = e
early_before f (l ∷ ls) e = (or_false f.burnt f.early (early_before (facts_with f l) ls e)).1

burn_last_lem : (f : Facts) (l : Line) (ls : List Line) → (facts_of f (l ∷ ls)).early ≡ false → (facts_of f (l ∷ ls)).burnt ≡ true → BurnLast (l ∷ ls)
unfolding facts_of facts_with BurnLast
burn_last_lem f l [] e b = b
burn_last_lem f l (m ∷ ls) e b =
    let g = facts_with f l in
    ((or_false (is_burn l) g.early (early_before (facts_with g m) ls e)).0, burn_last_lem g m ls e b)

pub burns : (ls : List Line) → 0 < length ls → burn_amiss_in (facts_of start ls) ≡ false → BurnLast ls
unfolding burn_amiss_in
burns [] h e = absurd (let y : ⊥ = omega arith in y)
burns (l ∷ ls) h e =
    let b = must_pass (facts_of start (l ∷ ls)).burnt (facts_of start (l ∷ ls)).early e in
    burn_last_lem start l ls b.1 b.0

pub burn-drop : (k : ℕ) (ls : List Line) → k < length ls → BurnLast ls → BurnLast (drop k ls)
unfolding BurnLast
burn-drop zero ls h b = b
burn-drop (suc k) [] h b = absurd (let y : ⊥ = omega arith in y)
burn-drop (suc k) (l ∷ []) h b = absurd (let y : ⊥ = omega arith in y)
burn-drop (suc k) (l ∷ m ∷ ls) h b = burn-drop k (m ∷ ls) (omega arith) b.1
