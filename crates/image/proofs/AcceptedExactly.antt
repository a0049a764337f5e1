-- A file's number is 0 exactly where the file is what document 01 asks. Assumes nothing.
use Rattle.std.specs.Prelude.{Ok, Err}
use mathlib.Core.Path.{◌≡◌, refl, sym, ap, ◌∙◌}
use mathlib.Core.List.{List}
use Prim.Native.Nat.{ℕ, ◌≤◌}
use native.Mathlib.Omega.{arith}
use lib.ListN.{length}
use borrow.Author.Tests.{ltb-false, not-false}
use Rattle.counts.specs.Counts.{line_number}
use Rattle.cuts.specs.Lines.{lines_of}
use Rattle.cuts.proofs.TextExactly.{text_exactly}
use Rattle.image.specs.Tests.{known_device, too_long, too_few, other_device}
use Rattle.image.specs.Check.{check_of}
use Rattle.summary.specs.Answers.{FileAnswer, answer_told}
use Rattle.summary.proofs.Numbers.{refusal_number}
use Rattle.image.specs.Meets.{Meets, AcceptedExactly}
use Rattle.image.proofs.TestsPass.{Passed, passed, accepts, answer_is}
use Rattle.image.proofs.LineBytes.{known_bytes}
use Rattle.image.proofs.LinesAndBytes.{values_in, spelled-length, says, read_spelled, read_forms}
use Rattle.image.proofs.LaidOut.{laid_out}
use Rattle.image.proofs.MeetsPass.{met}
use Rattle.image.proofs.WholeTests.{burn_last_lem, spots_c6, ids_differ}

pub meets : {s : List ℕ} → Passed s → Meets s
unfolding too_long too_few other_device
meets {s} p =
    let ls = lines_of s in
    let vs = values_in ls in
    let spelled = read_spelled ls p.reads in
    let forms = read_forms ls p.reads spelled in
    let many : 13 ≤ length vs = omega (arith, spelled-length spelled, ltb-false (length ls) 13 p.many) in
    let laid = laid_out spelled forms many p.revision p.fits in
    let burn = burn_last_lem spelled forms (omega arith) p.burn in
    let c6 = spots_c6 spelled forms laid p.spots in
    record {
      size = ltb-false 65536 (length s) p.short;
      lines = ls;
      text = (text_exactly s).cut;
      values = vs;
      spelled = spelled;
      meets =
          record {
            form = forms;
            laid = laid;
            device =
                known_bytes (forms 1 (omega arith) (omega arith)) (omega arith)
                (ap known_device (sym (says spelled (line_number 1))) ∙ not-false _ p.device);
            burn_last = burn.last;
            burn_once = burn.once;
            ids = λ N h. (c6 N h).0;
            crcs = λ N h. (c6 N h).1;
            differ = ids_differ spelled forms laid p.differ;
          };
    }

-- ---- the number

pub zero_accepts : (a : FileAnswer) → (answer_told a).number ≡ 0 → a ≡ Ok tt
zero_accepts (Ok tt) e = refl
zero_accepts (Err r) e = absurd (let y : ⊥ = omega (arith, (refusal_number r).some) in y)

pub accepted_exactly : (s : List ℕ) → AcceptedExactly s
accepted_exactly s =
    record {
      accepted_meets = λ e. meets (passed s (sym (answer_is s) ∙ zero_accepts (check_of s).answer e));
      meets_accepted = λ m. ap (λ a. (answer_told a).number) (answer_is s ∙ accepts (met m));
    }
