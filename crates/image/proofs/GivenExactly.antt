-- Of every text the check tells what the table of document 01 gives, and nothing else is given for it. Assumes nothing.
use Rattle.std.specs.Prelude.{Ok, Err}
use mathlib.Core.Path.{◌≡◌, refl, sym}
use mathlib.Core.Logic.{◌⊎◌, inl, inr}
use mathlib.Core.List.{List, []}
use Prim.Native.Nat.{ℕ, ◌+◌, ◌≤◌}
use native.Mathlib.Omega.{arith}
use lib.ListN.{length, get_or}
use lib.Dec.{ltb}
use borrow.Author.Tests.{ltb-true, ltb-false}
use Rattle.promise.specs.First.{First}
use Rattle.promise.proofs.Basics.{split}
use Rattle.promise.proofs.First.{first_one}
use Rattle.cuts.specs.Lines.{lines_of}
use Rattle.cuts.proofs.TextExactly.{text_exactly}
use Rattle.line.proofs.LineExactly.{line_exactly}
use Rattle.summary.specs.declared.Refusal.TheVariants as refusal
use Rattle.summary.specs.Answers.{FileAnswer, answer_told}
use Rattle.image.specs.Check.{answer_of}
use Rattle.image.specs.Meets.{Spelled}
use Rattle.image.specs.FileTable.{WholeTable, Faultless, Given, accepted, SIZE, faulty, whole, GivenExactly}
use Rattle.image.proofs.FirstRefusal.{AllRead}
use Rattle.image.proofs.TestsPass.{passed, whole_answer, accepts, answer_is}
use Rattle.image.proofs.LinesAndBytes.{values_in, read_spelled, read_forms}
use Rattle.image.proofs.MeetsPass.{met}
use Rattle.image.proofs.AcceptedExactly.{meets}
use Rattle.image.proofs.FirstRow.{Ends, passes, stops}
use Rattle.image.proofs.WholeExactly.{one_number, whole_ends}
use Rattle.image.proofs.FirstBadLine.{FirstBad, lines_either, long_answer, not_long, line_answer_lem}

-- ---- lines without fault are lines that read as good

all_read : (ls : List (List ℕ)) → Faultless ls → AllRead 1 ls
all_read ls f i h =
    let r = (line_exactly (1 + i) (get_or ls i []) (omega arith)).none (λ m p. f i m p h) in
    record { line = r.0; good = r.1 }

faultless : (ls : List (List ℕ)) → AllRead 1 ls → Faultless ls
faultless ls reads i m p h =
    let r = reads i h in
    (line_exactly (1 + i) (get_or ls i []) (omega arith)).good r.line r.good m p

module _ (s : List ℕ) where
  -- ---- what the check tells is given

  abbrev Gives : FileAnswer → Type 0
  Gives a = Given s (answer_told a).number (answer_told a).line.0 (answer_told a).place.0

  bad_given : length s ≤ 65536 → FirstBad 1 (lines_of s) → Gives (answer_of s)
  bad_given short b =
      rw (line_answer_lem s b.before b.behind b.text b.refused (not_long s short) (sym b.are) b.good b.bad)
      (faulty b.before b.behind b.text _ _ short (rw b.are at (text_exactly s).cut) (faultless b.before b.good)
      ((line_exactly (1 + length b.before) b.text (omega arith)).refused b.refused b.bad))

  module _ (short : length s ≤ 65536) (reads : AllRead 1 (lines_of s)) where
    end_given : (a : FileAnswer) → answer_of s ≡ a → Ends (WholeTable (values_in (lines_of s))) a → Gives a
    end_given (Ok tt) e (passes none) = accepted (meets (passed s e))
    end_given (Err (refusal.Line _ _)) e x = elim x [ ]
    end_given (Err (refusal.Whole w)) e (stops _ turn first) =
        whole (lines_of s) (values_in (lines_of s)) turn _ short (text_exactly s).cut (faultless (lines_of s) reads) (read_spelled (lines_of s) reads) first

    good_given : Gives (answer_of s)
    good_given =
        let spelled = read_spelled (lines_of s) reads in
        let e = whole_answer s (not_long s short) reads in
        rw e (end_given _ e (whole_ends spelled (read_forms (lines_of s) reads spelled)))

  lines_given : length s ≤ 65536 → AllRead 1 (lines_of s) ⊎ FirstBad 1 (lines_of s) → Gives (answer_of s)
  lines_given short (inl reads) = good_given short reads
  lines_given short (inr b) = bad_given short b

  given : Gives (answer_of s)
  given =
      split (ltb 65536 (length s)) (λ e. let long = ltb-true 65536 (length s) e in rw (long_answer s long) (SIZE long))
      (λ e. lines_given (ltb-false 65536 (length s) e) (lines_either 1 (lines_of s)))

  -- ---- what is given is told

  abbrev Tells : FileAnswer → ℕ → ℕ → ℕ → Type 0
  Tells a m n p = ((answer_told a).number ≡ m) × ((answer_told a).line.0 ≡ n) × ((answer_told a).place.0 ≡ p)

  end_told : {vs : List (List ℕ)} {turn m : ℕ} → First (WholeTable vs) turn m → {a : FileAnswer} → Ends (WholeTable vs) a → Tells a m 0 0
  end_told {vs} {turn} {m} first (passes none) = absurd (none turn m first.applies)
  end_told first (stops w turn told) = ((first_one one_number told first).1, refl, refl)

  whole_told : {ls vs : List (List ℕ)} {turn m : ℕ} → length s ≤ 65536 → ls ≡ lines_of s → Faultless ls → Spelled ls vs →
      First (WholeTable vs) turn m → Tells (answer_of s) m 0 0
  whole_told {ls} short are f spelled first =
      let reads = all_read ls f in
      rw (whole_answer s (not_long s short) (rw are at reads), ← are) (end_told first (whole_ends spelled (read_forms ls reads spelled)))

  told : {m n p : ℕ} → Given s m n p → Tells (answer_of s) m n p
  told (accepted w) = rw (accepts (met w)) (refl, refl, refl)
  told (SIZE long) = rw (long_answer s long) (refl, refl, refl)
  told (faulty before behind t m p short text f first) =
      let q = (line_exactly (1 + length before) t (omega arith)).only m p first in
      rw (line_answer_lem s before behind t q.0 (not_long s short) ((text_exactly s).only _ text) (all_read before f) q.1) (q.2, refl, q.3)
  told (whole ls vs turn m short text f spelled first) = whole_told short ((text_exactly s).only ls text) f spelled first

  pub given_exactly : GivenExactly s
  given_exactly = record { goes = rw (answer_is s) given; only = λ m n p g. rw (answer_is s) (told g) }
