-- An accepted file holds its write lines, 5 to n, from the place that the summary names, and the burn is the last; its counts
-- are those of a file. Assumes nothing.
use Rattle.std.specs.Prelude.{Ok, Err}
use mathlib.Core.Path.{◌≡◌, refl, sym, ◌∙◌}
use mathlib.Core.List.{List, [], append-nil}
use Prim.Native.Nat.{ℕ, ◌≤◌}
use native.Mathlib.Omega.{arith}
use lib.ListN.{length, drop}
use borrow.Author.Tests.{ltb-false, eqb-false}
use Rattle.counts.specs.Counts.{config_id}
use Rattle.line.specs.declared.Line.{Line}
use Rattle.cuts.specs.Lines.{lines_of}
use Rattle.image.specs.Says.{id_of, file_kind, file_configs, id_line, summary_of}
use Rattle.image.specs.Tests.{too_few, fits_none}
use Rattle.image.specs.Check.{first_refusal, check_of}
use Rattle.image.specs.Private.Walk.{start, facts_from, Walked}
use Rattle.image.proofs.Holds.{Holds, BurnLast, Sound}
use Rattle.image.proofs.SpotPlaces.{place_from, configs-le}
use Rattle.image.proofs.Counting.{count_is}
use Rattle.image.proofs.Eight.{eight_at}
use Rattle.image.proofs.WalkSays.{says_of, says-length, answer_by, walked_first}
use Rattle.image.proofs.FirstRefusal.{refused, read_lines}
use Rattle.image.proofs.HeldLines.{holds-drop}
use Rattle.image.proofs.WalkBurns.{burn_amiss_lem, burns, burn-drop}
use Rattle.image.proofs.WalkKeeps.{good}
use Rattle.image.proofs.TestsPass.{Passed, passed, answer_is, summary_is}

-- the tests of an accepted file
tests_of : (s : List ℕ) → (check_of s).answer ≡ Ok tt → Passed s
tests_of s e = passed s (sym (answer_is s) ∙ e)

says_of_lem : (s : List ℕ) → (check_of s).answer ≡ Ok tt → (check_of s).summary ≡ summary_of s
says_of_lem s e = summary_is s (sym (answer_is s) ∙ e)

-- the walk over good lines ends whole, so the text holds them
holds_of : {s : List ℕ} → Passed s → Holds s 0 1 (says_of (lines_of s))
unfolding answer_by start first_refusal
holds_of {s} p = ended (facts_from start (lines_of s)) refl (walked_first start (lines_of s) [] ∙ rw append-nil (read_lines (lines_of s) 1 p.reads))
  where
    ended : (t : Walked) → facts_from start (lines_of s) ≡ t → answer_by t (Ok tt) ≡ Ok tt → Holds s 0 1 (says_of (lines_of s))
    ended (Ok g) w e = good s g w
    ended (Err r) w e = refused r e

-- behind the four lines of the header
pub held_writes : (s : List ℕ) → (check_of s).answer ≡ Ok tt → Holds s (summary_of s).line5 5 (drop 4 (says_of (lines_of s)))
unfolding too_few summary_of
held_writes s e =
    let p = tests_of s e in
    let ls = says_of (lines_of s) in
    let size : length ls ≡ length (lines_of s) = says-length (lines_of s) in
    let many : 13 ≤ length (lines_of s) = ltb-false (length (lines_of s)) 13 p.many in
    rw (place_from 4 s) at (holds-drop s 4 ls 0 1 (omega arith) (holds_of p))

-- the burn is the last of them, and no other
pub burn_writes : (s : List ℕ) → (check_of s).answer ≡ Ok tt → BurnLast (drop 4 (says_of (lines_of s)))
unfolding too_few
burn_writes s e =
    let p = tests_of s e in
    let ls = says_of (lines_of s) in
    let size : length ls ≡ length (lines_of s) = says-length (lines_of s) in
    let many : 13 ≤ length (lines_of s) = ltb-false (length (lines_of s)) 13 p.many in
    burn-drop 4 ls (omega arith) (burns ls (omega arith) (burn_amiss_lem (lines_of s) (omega arith) ∙ p.burn))

-- an identifier is one digit
id-le : (l : Line) → (id_of l).0 ≤ 15
unfolding id_of
id-le l = omega arith

pub sound : (s : List ℕ) → (check_of s).answer ≡ Ok tt → Sound (check_of s).summary
unfolding fits_none summary_of file_configs
sound s e =
    let p = tests_of s e in
    let ls = lines_of s in
    let some : 1 ≤ file_configs ls = omega (arith, eqb-false (file_configs ls) 0 p.fits) in
    let few : file_configs ls ≤ 8 = configs-le (file_kind ls) (length ls) in
    rw (says_of_lem s e)
    (record {
      some = some;
      few = few;
      count = (count_is (file_kind ls) (length ls) some).0;
      ids = λ N h.
          rw (eight_at (λ N. id_of (id_line ls N)) (config_id 0) (file_configs ls) N few h) (id-le (id_line ls N));
    })
