-- Each branch of the order by the test that it takes: a test that is true gives its number, and one that is false leaves the rest of
-- the list. Assumes nothing.
use Rattle.line.specs.Reading.{byte}
use Rattle.summary.specs.Answers.{FileAnswer}
use mathlib.Core.Path.{◌≡◌, sym, ap, ◌∙◌}
use mathlib.Core.Bool.{Bool, true, false, not}
use mathlib.Core.List.{List, [], ◌∷◌}
use Prim.Native.Nat.{ℕ, ◌≤◌, ◌<◌}
use native.Mathlib.Omega.{arith}
use lib.ListN.{length}
use lib.Dec.{ltb}
use borrow.Author.Tests.{eq-eqb, ne_eqb}
use Rattle.std.specs.Prelude.{Some, None, Ok, Err}
use Rattle.line.specs.declared.Line.{Line}
use Rattle.counts.specs.declared.Kind.{Kind}
use Rattle.counts.specs.Counts.{line_number, kind_of, configs_of}
use Rattle.cuts.specs.Lines.{lines_of}
use Rattle.summary.specs.declared.Whole.{Whole}
use Rattle.summary.specs.declared.Whole.TheVariants.{Size, Count, Revision, Device, Burn, Spot, Same}
use Rattle.summary.specs.declared.Refusal.{Refusal}
use Rattle.summary.specs.declared.Refusal.TheVariants as refusal
use Rattle.summary.specs.declared.Summary.{Summary}
use Rattle.summary.specs.declared.Checked.{Checked}
use Rattle.image.specs.declared.Facts.{Facts}
use Rattle.image.specs.Says.{summary_of, kind_in, revision_says, file_kind, file_configs}
use Rattle.image.specs.Tests.{too_long, known_device, is_unknown, too_few, other_revision, other_device, fits_none, burn_amiss, other_spot, same_ids}
use Rattle.image.specs.Check.{refused_if, first_refusal, whole_answers, answer_of, refused_by, checked_as, check_of}
use Rattle.image.specs.Private.Walk.{start, facts_from, burn_amiss_in, line_at, off_spots, spots_to, same_in}
use Rattle.image.specs.Private.Rest.{AllGood, Counted, said_as, rest_of, lines_then_whole}
use Rattle.image.proofs.SpotPlaces.{configs-le}
use Rattle.image.proofs.Counting.{count_is, many_lines}
use Rattle.image.proofs.WalkSays.{answer_by, walked_first}
use Rattle.image.proofs.WalkKeeps.{line_no_lem, count, burn, other_spot_lem, same_ids_lem}

module _ (s : List ℕ) (w : Whole) (more : List FileAnswer) where
  pub stops : {t : Bool} → t ≡ true → Err (refusal.Whole w) ≡ said_as s (first_refusal (refused_if t w ∷ more))
  unfolding said_as first_refusal refused_if
  stops e = rw e

  pub passes : {t : Bool} → t ≡ false → said_as s (first_refusal more) ≡ said_as s (first_refusal (refused_if t w ∷ more))
  unfolding first_refusal refused_if
  passes e = rw e

-- ---- 1, and the answer of a check
module _ (s : List ℕ) where
  pub size_stops : too_long s ≡ true → Err (refusal.Whole Size) ≡ said_as s (answer_of s)
  unfolding answer_of
  size_stops e = stops s Size _ e

  pub size_passes : too_long s ≡ false → lines_then_whole s ≡ said_as s (answer_of s)
  unfolding answer_of lines_then_whole
  size_passes e = passes s Size _ e

  accepted_with : Summary → Checked
  accepted_with m = record { answer = Ok tt; summary = m }

  as_said : (a : FileAnswer) (m : Summary) → said_as s a ≡ Ok m → accepted_with m ≡ checked_as s a
  unfolding said_as checked_as accepted_with
  as_said (Ok tt) m e = let q : summary_of s ≡ m = cc in sym (ap accepted_with q)
  as_said (Err r) m e = let z : ◌≡◌ {A = ℕ} 0 1 = cc in absurd (let y : ⊥ = omega arith in y)

  as_refused : (a : FileAnswer) (r : Refusal) → said_as s a ≡ Err r → refused_by r ≡ checked_as s a
  unfolding said_as checked_as
  as_refused (Ok tt) r e = let z : ◌≡◌ {A = ℕ} 0 1 = cc in absurd (let y : ⊥ = omega arith in y)
  as_refused (Err q) r e = cc

  pub said : {m : Summary} → Ok m ≡ said_as s (answer_of s) → record { answer = Ok tt; summary = m } ≡ check_of s
  unfolding check_of accepted_with
  said e = as_said _ _ (sym e)

  pub refused : {r : Refusal} → Err r ≡ said_as s (answer_of s) → refused_by r ≡ check_of s
  unfolding check_of
  refused e = as_refused _ _ (sym e)

-- ---- 2 to 6
module _ (s : List ℕ) where
  pub line_stops : {r : Refusal} → facts_from start (lines_of s) ≡ Err r → Err r ≡ lines_then_whole s
  unfolding lines_then_whole start answer_by said_as
  line_stops e =
      let walked = walked_first start (lines_of s) (whole_answers (lines_of s)) in
      ap (said_as s) (rw e at walked)

  pub lines_pass : {f : Facts} → AllGood s f → rest_of 0 s ≡ lines_then_whole s
  unfolding rest_of lines_then_whole start answer_by
  lines_pass good =
      let walked = walked_first start (lines_of s) (whole_answers (lines_of s)) in
      ap (said_as s) (rw good at walked)

-- ---- 7 for under 13 lines, 8, 9
module _ (s : List ℕ) {f : Facts} (good : AllGood s f) where
  few_is : ltb f.lines 13 ≡ too_few (lines_of s)
  unfolding too_few
  few_is = rw (count s f good)

  pub few_stops : ltb f.lines 13 ≡ true → Err (refusal.Whole Count) ≡ rest_of 0 s
  unfolding rest_of whole_answers
  few_stops e = stops s Count _ (sym few_is ∙ e)

  pub few_passes : ltb f.lines 13 ≡ false → rest_of 1 s ≡ rest_of 0 s
  unfolding rest_of whole_answers
  few_passes e = passes s Count _ (sym few_is ∙ e)

  pub revision_is : kind_of (byte (line_at (line_number 2) s) 0) ≡ revision_says (lines_of s)
  unfolding revision_says
  revision_is = ap (λ (l : Line). kind_of (byte l 0)) (line_no_lem s f good 2 (omega arith))

  pub revision_stops : revision_says (lines_of s) ≡ None → Err (refusal.Whole Revision) ≡ rest_of 1 s
  unfolding rest_of whole_answers other_revision is_unknown
  revision_stops e = stops s Revision _ (ap is_unknown e)

  device_is : not (known_device (line_at (line_number 1) s)) ≡ other_device (lines_of s)
  unfolding other_device
  device_is = rw (line_no_lem s f good 1 (omega arith))

  module _ {kind : Kind} (found : revision_says (lines_of s) ≡ Some kind) where
    revision_passes : rest_of 2 s ≡ rest_of 1 s
    unfolding rest_of whole_answers other_revision is_unknown
    revision_passes = passes s Revision _ (ap is_unknown found)

    pub device_stops : known_device (line_at (line_number 1) s) ≡ false → Err (refusal.Whole Device) ≡ rest_of 1 s
    unfolding rest_of whole_answers
    device_stops e = stops s Device _ (sym device_is ∙ ap not e) ∙ revision_passes

    pub device_passes : known_device (line_at (line_number 1) s) ≡ true → rest_of 3 s ≡ rest_of 1 s
    unfolding rest_of whole_answers
    device_passes e = passes s Device _ (sym device_is ∙ ap not e) ∙ revision_passes

    pub counted : Counted s f kind (configs_of kind f.lines)
    unfolding file_kind file_configs kind_in
    counted =
        let is : file_kind (lines_of s) ≡ kind = ap kind_in found in
        record { good = good; is = is; configs = rw (is, count s f good) }

-- ---- 7 for n, 10, 11, 13
module _ (s : List ℕ) {f : Facts} {kind : Kind} {k : ℕ} (c : Counted s f kind k) where
  pub few_configs : k ≤ 8
  unfolding file_configs
  few_configs = omega (arith, c.configs, configs-le (file_kind (lines_of s)) (length (lines_of s)))

  pub none_stops : k ≡ 0 → Err (refusal.Whole Count) ≡ rest_of 3 s
  unfolding rest_of whole_answers fits_none
  none_stops e = stops s Count _ (eq-eqb _ 0 (c.configs ∙ e))

  module _ (some : 1 ≤ k) where
    pub count_passes : rest_of 4 s ≡ rest_of 3 s
    unfolding rest_of whole_answers fits_none
    count_passes = passes s Count _ (ne_eqb (file_configs (lines_of s)) 0 (λ e. omega (arith, e, c.configs)))

    burn_is : burn_amiss_in f ≡ burn_amiss (lines_of s)
    unfolding file_configs
    burn_is = burn s f c.good lines
      where
        lines : 0 < length (lines_of s)
        lines =
            let n = count_is (file_kind (lines_of s)) (length (lines_of s)) (omega (arith, c.configs)) in
            omega (arith, many_lines (file_kind (lines_of s)) (length (lines_of s)) k some (rw c.configs at n.0))

    pub burn_stops : burn_amiss_in f ≡ true → Err (refusal.Whole Burn) ≡ rest_of 4 s
    unfolding rest_of whole_answers
    burn_stops e = stops s Burn _ (sym burn_is ∙ e)

    module _ (once : burn_amiss_in f ≡ false) where
      burn_passes : rest_of 5 s ≡ rest_of 4 s
      unfolding rest_of whole_answers
      burn_passes = passes s Burn _ (sym burn_is ∙ once)

      spot_is : off_spots kind s k ≡ other_spot (lines_of s)
      spot_is = other_spot_lem s f c.good kind c.is k c.configs few_configs

      pub spot_stops : off_spots kind s k ≡ true → Err (refusal.Whole Spot) ≡ rest_of 4 s
      unfolding rest_of whole_answers
      spot_stops e = stops s Spot _ (sym spot_is ∙ e) ∙ burn_passes

      module _ (spots : off_spots kind s k ≡ false) where
        spot_passes : rest_of 6 s ≡ rest_of 4 s
        unfolding rest_of whole_answers
        spot_passes = passes s Spot _ (sym spot_is ∙ spots) ∙ burn_passes

        same_is : same_in (spots_to kind s k).ids k ≡ same_ids (lines_of s)
        same_is = same_ids_lem s f c.good kind c.is k c.configs few_configs

        pub same_stops : same_in (spots_to kind s k).ids k ≡ true → Err (refusal.Whole Same) ≡ rest_of 4 s
        unfolding rest_of whole_answers
        same_stops e = stops s Same _ (sym same_is ∙ e) ∙ spot_passes

        -- no test is left
        pub accepts : same_in (spots_to kind s k).ids k ≡ false → Ok (summary_of s) ≡ rest_of 4 s
        unfolding rest_of whole_answers first_refusal said_as
        accepts e = passes s Same [] (sym same_is ∙ e) ∙ spot_passes
