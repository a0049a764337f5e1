-- Every text is the lines that the definition cuts, and no others. Assumes nothing.
use mathlib.Core.Path.{◌≡◌, refl, sym, ap, ◌∙◌}
use mathlib.Core.List.{List, [], ◌∷◌, ◌++◌}
use Prim.Native.Nat.{ℕ}
use native.Mathlib.Omega.{arith}
use lib.Dec.{eqb}
use lib.ListN.{get_or}
use borrow.Author.Tests.{eqb-true, eqb-false, ne_eqb}
use Rattle.cuts.specs.Lines.{cons_head, lines_of}
use Rattle.cuts.specs.Text.{NoLf, none, more, Text, empty, last, lf, TextExactly}
use Rattle.cuts.specs.Text as text
use Rattle.promise.proofs.Basics.{split}

-- a byte that neither is an LF nor a CR before one
on_byte : (b : ℕ) (s : List ℕ) → (b ≡ 10 → ⊥) → (b ≡ 13 → get_or s 0 0 ≡ 10 → ⊥) → lines_of (b ∷ s) ≡ cons_head b (lines_of s)
unfolding lines_of
on_byte b s f g =
    split (eqb b 13) (λ e. simp (ne_eqb b 10 f, e, ne_eqb (get_or s 0 0) 10 (g (eqb-true b 13 e)))) (λ e. simp (ne_eqb b 10 f, e))

-- its last byte is no CR
abbrev NoLastCr : List ℕ → Type 0
NoLastCr t = (u : List ℕ) → t ≡ u ++ (13 ∷ []) → ⊥

-- ---- no other lines

lines_last : (b : ℕ) (t : List ℕ) → NoLf (b ∷ t) → lines_of (b ∷ t) ≡ (b ∷ t) ∷ []
unfolding lines_of cons_head
lines_last b [] (more _ _ f n) = on_byte b [] f (λ e g. let y : ⊥ = omega arith in y)
lines_last b (c ∷ t) (more _ _ f (more _ _ g n)) =
    on_byte b (c ∷ t) f (λ e h. g h) ∙ rw (lines_last c t (more c t g n))

lines_lf : (t rest : List ℕ) → NoLf t → NoLastCr t → lines_of (t ++ (10 ∷ rest)) ≡ t ∷ lines_of rest
unfolding lines_of cons_head
lines_lf [] rest n c = refl
lines_lf (b ∷ []) rest (more _ _ f n) c = on_byte b (10 ∷ rest) f (λ e h. c [] (rw e))
lines_lf (b ∷ d ∷ t) rest (more _ _ f (more _ _ g n)) c =
    on_byte b (d ∷ (t ++ (10 ∷ rest))) f (λ e h. g h) ∙ rw (lines_lf (d ∷ t) rest (more d t g n) (λ u e. c (b ∷ u) (rw e)))

lines_crlf : (t rest : List ℕ) → NoLf t → lines_of (t ++ (13 ∷ 10 ∷ rest)) ≡ t ∷ lines_of rest
unfolding lines_of cons_head
lines_crlf [] rest n = refl
lines_crlf (b ∷ []) rest (more _ _ f n) = on_byte b (13 ∷ 10 ∷ rest) f (λ e h. let y : ⊥ = omega arith in y)
lines_crlf (b ∷ d ∷ t) rest (more _ _ f (more _ _ g n)) =
    on_byte b (d ∷ (t ++ (13 ∷ 10 ∷ rest))) f (λ e h. g h) ∙ rw (lines_crlf (d ∷ t) rest (more d t g n))

lines_are_lem : {s : List ℕ} {ls : List (List ℕ)} → Text s ls → lines_of s ≡ ls
unfolding lines_of
lines_are_lem empty = refl
lines_are_lem (last b t n) = lines_last b t n
lines_are_lem (lf t rest ls n c x) = lines_lf t rest n c ∙ ap (λ (l : List (List ℕ)). t ∷ l) (lines_are_lem x)
lines_are_lem (text.cr_lf t rest ls n x) = lines_crlf t rest n ∙ ap (λ (l : List (List ℕ)). t ∷ l) (lines_are_lem x)

-- ---- these lines

same_head : {a b : ℕ} {t u : List ℕ} → a ∷ t ≡ b ∷ u → (a ≡ b) × (t ≡ u)
same_head e = (ap (λ (l : List ℕ). get_or l 0 0) e, cc)

empty_no : NoLastCr []
empty_no [] e = let n : ◌≡◌ {A = ℕ} 0 1 = cc in let y : ⊥ = omega arith in y
empty_no (c ∷ u) e = let n : ◌≡◌ {A = ℕ} 0 1 = cc in let y : ⊥ = omega arith in y

one-no : (b : ℕ) → (b ≡ 13 → ⊥) → NoLastCr (b ∷ [])
one-no b f [] e = f (same_head e).0
one-no b f (c ∷ u) e = empty_no u (same_head e).1

on_no : (b c : ℕ) (t : List ℕ) → NoLastCr (c ∷ t) → NoLastCr (b ∷ c ∷ t)
on_no b c t f [] e = let n : c ∷ t ≡ [] = (same_head e).1 in let z : ◌≡◌ {A = ℕ} 0 1 = cc in let y : ⊥ = omega arith in y
on_no b c t f (d ∷ u) e = f u (same_head e).1

cons_text : (b : ℕ) {s : List ℕ} {ls : List (List ℕ)} → (b ≡ 10 → ⊥) → (b ≡ 13 → get_or s 0 0 ≡ 10 → ⊥) → Text s ls → Text (b ∷ s) (cons_head b ls)
unfolding cons_head
cons_text b f g empty = last b [] (more b [] f none)
cons_text b f g (last c t n) = last b (c ∷ t) (more b (c ∷ t) f n)
cons_text b f g (lf [] rest ls n c x) = lf (b ∷ []) rest ls (more b [] f none) (one-no b (λ e. g e refl)) x
cons_text b f g (lf (d ∷ t) rest ls n c x) = lf (b ∷ d ∷ t) rest ls (more b (d ∷ t) f n) (on_no b d t c) x
cons_text b f g (text.cr_lf t rest ls n x) = text.cr_lf (b ∷ t) rest ls (more b t f n) x

text_on : (b : ℕ) (s : List ℕ) → (b ≡ 10 → ⊥) → (b ≡ 13 → get_or s 0 0 ≡ 10 → ⊥) → Text s (lines_of s) → Text (b ∷ s) (lines_of (b ∷ s))
text_on b s f g x = let e : lines_of (b ∷ s) ≡ cons_head b (lines_of s) = on_byte b s f g in rw e (cons_text b f g x)

text_lines : (s : List ℕ) → Text s (lines_of s)
unfolding lines_of
text_lines [] = empty
text_lines (b ∷ []) =
    split (eqb b 10) (λ e. rw (eqb-true b 10 e) (lf [] [] [] none empty_no empty))
    (λ e. text_on b [] (eqb-false b 10 e) (λ x y. omega arith) empty)
text_lines (b ∷ c ∷ s) =
    split (eqb b 10) (λ e. rw (eqb-true b 10 e) (lf [] (c ∷ s) _ none empty_no (text_lines (c ∷ s))))
    (λ e. let f = eqb-false b 10 e in
    let on : (b ≡ 13 → c ≡ 10 → ⊥) → Text (b ∷ c ∷ s) (lines_of (b ∷ c ∷ s)) = λ g. text_on b (c ∷ s) f g (text_lines (c ∷ s)) in
    split (eqb b 13)
    (λ g. split (eqb c 10) (λ h. rw (eqb-true b 13 g, eqb-true c 10 h) (text.cr_lf [] s _ none (text_lines s))) (λ h. on (λ x. eqb-false c 10 h)))
    (λ g. on (λ x. absurd (eqb-false b 13 g x))))

pub text_exactly : (s : List ℕ) → TextExactly s
text_exactly s = record { cut = text_lines s; only = λ ls x. sym (lines_are_lem x) }
