-- Where the lines of a configuration start. Assumes nothing.
use Prim.Native.Nat.{ℕ, ◌+◌, ◌-◌, ◌*◌, ◌/◌, ◌%◌, ◌≤◌}
use mathlib.Core.List.{List}
use mathlib.Core.Path.{◌≡◌, refl, sym}
use native.Mathlib.Omega.{arith}
use lib.ListN.{drop}
use lib.Dec.{eqb, leb, lit≤}
use borrow.Author.Tests.{leb-true}
use Rattle.promise.proofs.Basics.{split}
use Rattle.counts.specs.declared.Kind.{Kind}
use Rattle.counts.specs.declared.Kind.TheVariants.{Legacy, Production}
use Rattle.counts.specs.Counts.{line_number, config_number, step_of, crc_place, identifier_line, crc_line, configs_of}
use Rattle.cuts.specs.Lines.{place_of}
use Rattle.cuts.proofs.FirstLine.{place_add}
use Rattle.line.specs.Reading.{next_line}
use Rattle.image.specs.Private.Walk.{line_in, line_at}

-- from the place behind j lines, over m more
pub place_more : (j m k : ℕ) (s : List ℕ) {at : ℕ} → at ≡ place_of j s → j + m ≡ k → at + place_of m (drop at s) ≡ place_of k s
place_more j m k s p q = rw (p, ← q) (sym (place_add j m s))

module _ (n : ℕ) where
  pub to_id : (kind : Kind) → step_of kind * n + 11 ≡ (identifier_line kind (config_number n)).0 - 1
  to_id Legacy = omega arith
  to_id Production = omega arith

  pub to_crc : (kind : Kind) → step_of kind * n + 11 + (crc_place kind - 12) ≡ (crc_line kind (config_number n)).0 - 1
  to_crc Legacy = omega arith
  to_crc Production = omega arith

  pub to_next : (kind : Kind) → step_of kind * n + 11 + (crc_place kind - 12) + (step_of kind + 1 - crc_place kind) ≡ step_of kind * (n + 1)
  to_next Legacy = omega arith
  to_next Production = omega arith

pub place_start : (kind : Kind) (s : List ℕ) → 0 ≡ place_of (step_of kind * 0) s
unfolding place_of
place_start Legacy s = refl
place_start Production s = refl

-- the first two lines, and line 5
pub line_one : (s : List ℕ) → line_in (next_line (line_number 1) 0 s) ≡ line_at (line_number 1) s
unfolding line_at place_of
line_one s = refl

pub place_from : (k : ℕ) (s : List ℕ) → 0 + place_of k (drop 0 s) ≡ place_of k s
place_from k s = omega arith

pub line_two : (s : List ℕ) → line_in (next_line (line_number 2) (place_of 1 s) s) ≡ line_at (line_number 2) s
unfolding line_at
line_two s = refl

pub configs-le : (kind : Kind) (n : ℕ) → configs_of kind n ≤ 8
unfolding configs_of
configs-le kind n =
    split (eqb (n % step_of kind) 12)
    (λ h. split (leb (n / step_of kind) 8) (λ e. rw (h, e) (leb-true _ _ e)) (λ e. rw (h, e) (lit≤ tt)))
    (λ h. rw h (lit≤ tt))
