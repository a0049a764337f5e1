-- A file is accepted where each test passes, and only there. Assumes nothing.
use Rattle.summary.specs.Answers.{FileAnswer}
use Rattle.std.specs.Prelude.{Ok, Err}
use mathlib.Core.Path.{◌≡◌, refl, ap, ◌∙◌}
use mathlib.Core.Bool.{false}
use mathlib.Core.List.{List, []}
use Prim.Native.Nat.{ℕ}
use Rattle.cuts.specs.Lines.{lines_of}
use Rattle.summary.specs.declared.Whole.TheVariants.{Size, Count, Revision, Device, Burn, Spot, Same}
use Rattle.image.specs.Says.{summary_of}
use Rattle.image.specs.Tests.{too_long, too_few, other_revision, other_device, fits_none, burn_amiss, other_spot, same_ids}
use Rattle.image.specs.Check.{refused_if, first_refusal, line_answers, whole_answers, answer_of, checked_as, check_of}
use Rattle.image.proofs.FirstRefusal.{first-cons, first-append, append_first, passes, AllRead, lines_read, read_lines}

pub record Passed (s : List ℕ) : Type 0 where
  pub short : too_long s ≡ false
  pub reads : AllRead 1 (lines_of s)
  pub many : too_few (lines_of s) ≡ false
  pub revision : other_revision (lines_of s) ≡ false
  pub device : other_device (lines_of s) ≡ false
  pub fits : fits_none (lines_of s) ≡ false
  pub burn : burn_amiss (lines_of s) ≡ false
  pub spots : other_spot (lines_of s) ≡ false
  pub differ : same_ids (lines_of s) ≡ false

pub passed : (s : List ℕ) → answer_of s ≡ Ok tt → Passed s
unfolding answer_of whole_answers
passed s e =
    let ls = lines_of s in
    let size = first-cons (refused_if (too_long s) Size) _ e in
    let lines = first-append (line_answers 1 ls) (whole_answers ls) size.1 in
    let many = first-cons (refused_if (too_few ls) Count) _ lines.1 in
    let revision = first-cons (refused_if (other_revision ls) Revision) _ many.1 in
    let device = first-cons (refused_if (other_device ls) Device) _ revision.1 in
    let fits = first-cons (refused_if (fits_none ls) Count) _ device.1 in
    let burn = first-cons (refused_if (burn_amiss ls) Burn) _ fits.1 in
    let spots = first-cons (refused_if (other_spot ls) Spot) _ burn.1 in
    let differ = first-cons (refused_if (same_ids ls) Same) [] spots.1 in
    record {
      short = passes (too_long s) Size size.0;
      reads = lines_read ls 1 lines.0;
      many = passes (too_few ls) Count many.0;
      revision = passes (other_revision ls) Revision revision.0;
      device = passes (other_device ls) Device device.0;
      fits = passes (fits_none ls) Count fits.0;
      burn = passes (burn_amiss ls) Burn burn.0;
      spots = passes (other_spot ls) Spot spots.0;
      differ = passes (same_ids ls) Same differ.0;
    }

-- past its size and its lines, a text is answered by the tests of the whole file
pub whole_answer : (s : List ℕ) → too_long s ≡ false → AllRead 1 (lines_of s) → answer_of s ≡ first_refusal (whole_answers (lines_of s))
unfolding answer_of refused_if first_refusal
whole_answer s short reads =
    let ls = lines_of s in
    rw short (append_first (line_answers 1 ls) (whole_answers ls) (read_lines ls 1 reads))

pub accepts : {s : List ℕ} → Passed s → answer_of s ≡ Ok tt
unfolding whole_answers refused_if first_refusal
accepts {s} p = whole_answer s p.short p.reads ∙ rw (p.many, p.revision, p.device, p.fits, p.burn, p.spots, p.differ)

pub answer_is : (s : List ℕ) → (check_of s).answer ≡ answer_of s
unfolding check_of checked_as
answer_is s = carried (answer_of s)
  where
    carried : (a : FileAnswer) → (checked_as s a).answer ≡ a
    carried (Ok tt) = refl
    carried (Err r) = refl

-- an accepted file's summary is what its lines say
pub summary_is : (s : List ℕ) → answer_of s ≡ Ok tt → (check_of s).summary ≡ summary_of s
unfolding check_of checked_as
summary_is s e = ap (λ (a : FileAnswer). (checked_as s a).summary) e
