-- How long the lines are that are written. Assumes nothing.
use mathlib.Core.Path.{◌≡◌, refl}
use Prim.Native.Nat.{ℕ, zero, suc, ◌*◌, ◌≤◌}
use native.Mathlib.Omega.{arith}
use lib.ListN.{length, get_or, length-append}
use Rattle.counts.specs.declared.ConfigId.{ConfigId}
use Rattle.counts.specs.declared.Kind.{Kind}
use Rattle.counts.specs.declared.Kind.TheVariants.{Legacy, Production}
use Rattle.counts.specs.Counts.{config_id}
use Rattle.summary.specs.declared.Refusal.{Refusal}
use Rattle.summary.specs.declared.Summary.{Summary}
use Rattle.summary.specs.Answers.{refusal_told}
use Rattle.text.specs.Text.{bytes_of}
use Rattle.text.proofs.Laws.{digits-length, decimal-length}
use Rattle.shown.specs.Shown.{kind_name, row_of, rows_to, head_of, accepted_text, refused_text}

row-length : (id : ConfigId) (crc : ℕ) → length (row_of id crc) ≡ 11
unfolding row_of
row-length id crc = simp (length-append, digits-length)

rows-length : (s : Summary) (n : ℕ) → length (rows_to s n) ≡ 11 * n
unfolding rows_to
rows-length s zero = refl
rows-length s (suc n) = simp length-append (omega (arith, rows-length s n, row-length (get_or s.ids n (config_id 0)) (get_or s.crcs n 0)))

kind-length : (kind : Kind) → length (kind_name kind) ≤ 10
unfolding kind_name bytes_of
kind-length Legacy = omega arith
kind-length Production = omega arith

head-length : (s : Summary) → length (head_of s) ≤ 72
unfolding head_of bytes_of
head-length s =
    simp (length-append, digits-length) (omega (arith, kind-length s.kind, decimal-length s.lines, decimal-length s.configs))

pub refused-length : (r : Refusal) → length (refused_text r) ≤ 160
unfolding refused_text bytes_of
refused-length r = simp length-append (omega (arith, decimal-length (refusal_told r).number, decimal-length (refusal_told r).line.0, decimal-length (refusal_told r).place.0))

pub accepted-length : (s : Summary) → s.configs ≤ 8 → length (accepted_text s) ≤ 160
unfolding accepted_text
accepted-length s few = simp length-append (omega (arith, head-length s, rows-length s s.configs))
