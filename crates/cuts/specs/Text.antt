-- The lines of a text, said without cutting it (document 01, "Lines of the file"): no function of the code stands in it. No promise
-- cites this page: proofs/TextExactly.antt shows that `lines_of` gives these lines and that there are no others. Assumes nothing.
use Rattle.std.specs.Prelude.{◌≡◌, List, [], ◌∷◌, ◌++◌, ℕ}
use Rattle.cuts.specs.Lines.{lines_of}

-- no LF in it
pub data NoLf : List ℕ → Type 0 where
  none : NoLf []
  more : (b : ℕ) (t : List ℕ) → (b ≡ 10 → ⊥) → NoLf t → NoLf (b ∷ t)

-- this text is these lines: a line ends at LF or CR LF, and its last byte before an LF is no CR; the last may lack its end; what is
-- empty after the last LF is no line
pub data Text : List ℕ → List (List ℕ) → Type 0 where
  empty : Text [] []
  last : (b : ℕ) (t : List ℕ) → NoLf (b ∷ t) → Text (b ∷ t) ((b ∷ t) ∷ [])
  lf : (t rest : List ℕ) (ls : List (List ℕ)) → NoLf t → ((u : List ℕ) → t ≡ u ++ (13 ∷ []) → ⊥) → Text rest ls → Text (t ++ (10 ∷ rest)) (t ∷ ls)
  cr_lf : (t rest : List ℕ) (ls : List (List ℕ)) → NoLf t → Text rest ls → Text (t ++ (13 ∷ 10 ∷ rest)) (t ∷ ls)

-- ---- the statement: these lines and no others

pub record TextExactly (s : List ℕ) : Type 0 where
  pub cut : Text s (lines_of s)
  pub only : (ls : List (List ℕ)) → Text s ls → ls ≡ lines_of s
