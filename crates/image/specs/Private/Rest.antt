-- What the private functions of the order are held to: the rest of the list of tests, where the lines and the tests before it pass.
-- Nothing public cites this page. Assumes nothing.
use Rattle.std.specs.Prelude.{ℕ, ◌≡◌, ◌≤◌, List, ◌++◌, drop, Result, Ok, Err}
use Rattle.counts.specs.declared.Kind.{Kind}
use Rattle.cuts.specs.Lines.{lines_of}
use Rattle.summary.specs.declared.Summary.{Summary}
use Rattle.summary.specs.declared.Refusal.{Refusal}
use Rattle.summary.specs.declared.Refusal.TheVariants as refusal
use Rattle.summary.specs.declared.Whole.{Whole}
use Rattle.summary.specs.Answers.{FileAnswer}
use Rattle.image.specs.declared.Spots.{Spots}
use Rattle.image.specs.declared.Facts.{Facts}
use Rattle.image.specs.Says.{file_kind, file_configs, summary_of}
use Rattle.image.specs.Check.{first_refusal, line_answers, whole_answers}
use Rattle.image.specs.Private.Walk.{start, facts_from, spots_to}

-- what a file says with this answer, or its refusal
unfoldable pub said_as : List ℕ → FileAnswer → Result Summary Refusal
said_as s (Ok tt) = Ok (summary_of s)
said_as s (Err r) = Err r

-- what the tests of the whole file from the i-th on make of a text: 0 COUNT for under 13 lines, 1 REVISION, 2 DEVICE, 3 COUNT for n,
-- 4 BURN, 5 SPOT, 6 SAME
unfoldable pub rest_of : ℕ → List ℕ → Result Summary Refusal
rest_of i s = said_as s (first_refusal (drop i (whole_answers (lines_of s))))

-- what all tests but that of the size make of it
unfoldable pub lines_then_whole : List ℕ → Result Summary Refusal
lines_then_whole s = said_as s (first_refusal (line_answers 1 (lines_of s) ++ whole_answers (lines_of s)))

-- every line is good, and these are the facts of all
abbrev pub AllGood : List ℕ → Facts → Type 0
AllGood s f = facts_from start (lines_of s) ≡ Ok f

-- and these are the kind and k, which a file with lines that fit has
pub record Counted (s : List ℕ) (f : Facts) (kind : Kind) (k : ℕ) : Type 0 where
  pub good : AllGood s f
  pub is : file_kind (lines_of s) ≡ kind
  pub configs : file_configs (lines_of s) ≡ k

-- kind and k where the tests up to that for n pass, or the first of them that does not
abbrev pub CountsAs : List ℕ → Facts → Result (Kind × ℕ) Whole → Type 0
CountsAs s f (Ok (kind, k)) = Counted s f kind k × (1 ≤ k) × (rest_of 4 s ≡ rest_of 0 s)
CountsAs s f (Err w) = Err (refusal.Whole w) ≡ rest_of 0 s

-- what the configurations' lines say where the tests behind it pass too, or the first of those that does not
abbrev pub TriesAs : List ℕ → Kind → ℕ → Result Spots Whole → Type 0
TriesAs s kind k (Ok spots) = (spots_to kind s k ≡ spots) × (Ok (summary_of s) ≡ rest_of 4 s)
TriesAs s kind k (Err w) = Err (refusal.Whole w) ≡ rest_of 4 s
