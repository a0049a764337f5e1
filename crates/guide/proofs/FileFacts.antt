-- What the guide's theorems need of a text and what is said of it, as plain facts, and what follows at once. Assumes nothing.
use mathlib.Core.Path.{◌≡◌, refl, ◌∙◌}
use mathlib.Core.List.{List, [], ◌∷◌}
use Prim.Native.Nat.{ℕ, ◌+◌, ◌-◌, ◌≤◌, ◌<◌}
use native.Mathlib.Omega.{arith}
use lib.ListN.{length, get_or, drop, length-drop}
use Rattle.cuts.specs.Lines.{lines_of}
use Rattle.line.specs.Digits.{digit_val, values_of}
use Rattle.line.specs.LineForm.{LineForm}
use Rattle.summary.specs.declared.Summary.{Summary}
use Rattle.image.specs.Meets.{BurnBytes}
use Rattle.guide.specs.Guide.{lines_as, write_lines_of}

-- the bytes of the line with this number
abbrev pub values_at : List ℕ → ℕ → List ℕ
values_at text n = values_of digit_val (get_or (lines_of text) (n - 1) [])

pub record FileFacts (file : Summary) (text : List ℕ) : Type 0 where
  pub lines : file.lines ≡ length (lines_of text)
  pub few : file.configs ≤ 8
  pub many : 5 ≤ length (lines_of text)
  pub form : (n : ℕ) → 5 ≤ n → n ≤ length (lines_of text) → LineForm n (values_at text n)
  pub burn_last : BurnBytes (values_at text (length (lines_of text)))
  pub burn_once : (n : ℕ) → 5 ≤ n → n < length (lines_of text) → BurnBytes (values_at text n) → ⊥

lines_as-length : (ts : List (List ℕ)) → length (lines_as ts) ≡ length ts
unfolding lines_as
lines_as-length [] = refl
lines_as-length (t ∷ ts) = rw (lines_as-length ts)

pub write_lines-length : (text : List ℕ) → length (write_lines_of text) ≡ length (lines_of text) - 4
unfolding write_lines_of
write_lines-length text = lines_as-length (drop 4 (lines_of text)) ∙ length-drop 4 (lines_of text)

module _ {file : Summary} (text : List ℕ) (facts : FileFacts file text) where
  pub lines_are_lem : file.lines ≡ 4 + length (write_lines_of text)
  lines_are_lem = omega (arith, facts.lines, facts.many, write_lines-length text)

  pub some_line_lem : 1 ≤ length (write_lines_of text)
  some_line_lem = omega (arith, facts.many, write_lines-length text)
