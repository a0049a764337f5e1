-- A device that an accepted file fits; and what such a file says fits four bytes. Assumes nothing.
use mathlib.Core.Path.{refl}
use mathlib.Core.Logic.{inr}
use mathlib.Core.List.{List, []}
use Prim.Native.Nat.{ℕ, ◌+◌, ◌-◌, ◌<◌, ◌≤◌}
use native.Mathlib.Omega.{arith}
use lib.ListN.{get_or}
use Rattle.cuts.specs.Lines.{lines_of}
use Rattle.counts.specs.declared.Kind.{Kind}
use Rattle.counts.specs.declared.Kind.TheVariants.{Legacy, Production}
use Rattle.line.specs.Digits.{digit_val}
use Rattle.line.proofs.LineParts.{values-lt}
use Rattle.line.proofs.Spelling.{spells_values}
use Rattle.summary.specs.declared.Summary.{Summary}
use Rattle.image.specs.Says.{word}
use Rattle.image.specs.Meets.{data_in, numbered, Meets}
use Rattle.image.proofs.LinesAndBytes.{spells_at}
use Rattle.image.proofs.MeetsPass.{spelled_of}
use Rattle.guide.specs.Matched.{Wants, legacy, production, Fits}
use Rattle.guide.specs.declared.Words.{Words}
use Rattle.guide.specs.Guide.{target_of}

-- ---- a device that the file fits

unfoldable pub counter_for : Kind → ℕ
counter_for Legacy = 27
counter_for Production = 28

pub counter_is : (kind : Kind) → (27 ≤ counter_for kind) × (counter_for kind ≤ 28)
unfolding counter_for
counter_is Legacy = (omega arith, omega arith)
counter_is Production = (omega arith, omega arith)

-- revision 06, and a counter with places for eight configurations beside those kept free
abbrev pub fitting_words : Summary → Words
fitting_words file = record { counter = counter_for file.kind; identity = file.identity; flag = 0; revision = 100663296 }

pub fitting : (file : Summary) (kept : ℕ) → file.configs + kept ≤ 27 → Fits (target_of file) kept (fitting_words file)
unfolding counter_for
fitting file kept few =
    let c = counter_is file.kind in
    record { counted = c.1; same = refl; young = omega arith; kind = by file.kind; places = omega arith }
  where
    by : (k : Kind) → Wants (counter_for k) 0 k
    by Legacy = legacy refl (omega arith)
    by Production = production (inr refl)

-- ---- what an accepted file says fits four bytes

module _ (text : List ℕ) (m : Meets text) where
  byte-lt : (n i : ℕ) → data_in i (numbered m.values n) < 256
  byte-lt n i = rw (spells_values (spells_at (spelled_of m) (n - 1))) at (values-lt digit_val (get_or (lines_of text) (n - 1) []) (4 + i))

  pub word_lt : (n a b c d : ℕ)
      → let v = numbered m.values n in word (data_in a v) (data_in b v) (data_in c v) (data_in d v) < 4294967296
  unfolding word
  word_lt n a b c d = omega (arith, byte-lt n a, byte-lt n b, byte-lt n c, byte-lt n d)
