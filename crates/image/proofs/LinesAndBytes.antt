-- The lines of a text beside the bytes that they spell: what a line says is said by the bytes at its number. Assumes nothing.
use mathlib.Core.Path.{◌≡◌, refl, ap}
use mathlib.Core.List.{List, [], ◌∷◌, map}
use Prim.Native.Nat.{ℕ, zero, suc, ◌+◌, ◌-◌, ◌≤◌, ◌<◌}
use native.Mathlib.Omega.{arith}
use lib.ListN.{length, get_or}
use Rattle.counts.specs.declared.LineNumber.{LineNumber}
use Rattle.counts.specs.Counts.{line_number, kind_of}
use Rattle.line.specs.Digits.{digit_val, values_of}
use Rattle.line.specs.Reading.{line_of}
use Rattle.line.specs.LineForm.{Spells, none as empty, LineForm}
use Rattle.line.proofs.Spelling.{spells_values}
use Rattle.line.proofs.GoodExactly.{form_good, good_form}
use Rattle.image.specs.Says.{line_no, revision_says}
use Rattle.image.specs.Meets.{data_in, numbered, Spelled, none, line}
use Rattle.image.proofs.FirstRefusal.{AllRead}
use Rattle.image.proofs.LineBytes.{first_is}

pub spelled-length : {ts vs : List (List ℕ)} → Spelled ts vs → length ts ≡ length vs
spelled-length none = refl
spelled-length (line t v ts vs x s) = ap suc (spelled-length s)

pub spells_at : {ts vs : List (List ℕ)} → Spelled ts vs → (i : ℕ) → Spells (get_or ts i []) (get_or vs i [])
spells_at none i = empty
spells_at (line t v ts vs x s) zero = x
spells_at (line t v ts vs x s) (suc i) = spells_at s i

-- the only bytes that they spell
unfoldable pub values_in : List (List ℕ) → List (List ℕ)
values_in ts = map (values_of digit_val) ts

pub all_spelled : (ts : List (List ℕ)) → ((i : ℕ) → i < length ts → Spells (get_or ts i []) (values_of digit_val (get_or ts i []))) → Spelled ts (values_in ts)
unfolding values_in
all_spelled [] f = none
all_spelled (t ∷ ts) f =
    line t (values_of digit_val t) ts (values_in ts) (f 0 (omega arith)) (all_spelled ts (λ i h. f (suc i) (omega arith)))

-- every line has its form
abbrev pub Forms : List (List ℕ) → Type 0
Forms vs = (n : ℕ) → 1 ≤ n → n ≤ length vs → LineForm n (numbered vs n)

-- ---- lines that read as good

module _ (ts : List (List ℕ)) (reads : AllRead 1 ts) where
  pub read_spelled : Spelled ts (values_in ts)
  read_spelled = all_spelled ts (λ i h. let r = reads i h in (good_form (line_number (1 + i)) (get_or ts i []) r.line (omega arith) r.good).spelled)

  pub read_forms : {vs : List (List ℕ)} → Spelled ts vs → Forms vs
  read_forms spelled n g h =
      let i = n - 1 in
      let e : 1 + i ≡ n = omega arith in
      let r = reads i (omega (arith, spelled-length spelled)) in
      let f = (good_form (line_number (1 + i)) (get_or ts i []) r.line (omega arith) r.good).form in
      rw (e, spells_values (spells_at spelled i)) at f

module _ {ts vs : List (List ℕ)} (spelled : Spelled ts vs) where
  pub form_reads : Forms vs → AllRead 1 ts
  form_reads f i h =
      let e : 1 + i - 1 ≡ i = omega arith in
      let g = f (1 + i) (omega arith) (omega (arith, spelled-length spelled)) in
      record {
        line = line_of (get_or vs i []);
        good = form_good (line_number (1 + i)) (get_or ts i []) (get_or vs i []) (spells_at spelled i) (rw e at g);
      }

  -- ---- what the lines say

  pub says : (n : LineNumber) → line_no ts n ≡ line_of (numbered vs n.0)
  unfolding line_no
  says n = ap line_of (spells_values (spells_at spelled (n.0 - 1)))

  pub revision_is : Forms vs → 2 ≤ length vs → revision_says ts ≡ kind_of (data_in 0 (numbered vs 2))
  unfolding revision_says
  revision_is f h = rw (says (line_number 2), first_is (f 2 (omega arith) h))
