-- What the summary of an accepted file says, by the bytes of the file's lines. Assumes nothing.
use mathlib.Core.Path.{◌≡◌, ap, ◌∙◌}
use mathlib.Core.List.{List}
use Prim.Native.Nat.{ℕ, ◌≤◌}
use native.Mathlib.Omega.{arith}
use Rattle.counts.specs.Counts.{line_number, config_id}
use Rattle.cuts.specs.Lines.{lines_of}
use Rattle.cuts.proofs.FirstLine.{lines_from}
use Rattle.cuts.proofs.TextExactly.{text_exactly}
use Rattle.image.specs.Says.{identity_of, id_of, crc_of, file_configs, id_line, config_crc_line, summary_of}
use Rattle.image.specs.Meets.{Meets, SummarySays}
use Rattle.image.proofs.TestsPass.{accepts, summary_is}
use Rattle.image.proofs.Eight.{eight_at}
use Rattle.image.proofs.LineBytes.{id_is, crc_is, identity_is}
use Rattle.image.proofs.LinesAndBytes.{spelled-length, says}
use Rattle.image.proofs.LaidOut.{laid_many, id_form, crc_form, kind_is, configs_are, id_line_lem, crc_line_lem}
use Rattle.image.proofs.MeetsPass.{spelled_of, met}

pub summary_says : {s : List ℕ} (m : Meets s) → SummarySays s m
unfolding summary_of
summary_says {s} w =
    let ls = lines_of s in
    let m = w.meets in
    let l = m.laid in
    let spelled = spelled_of w in
    let e = summary_is s (accepts (met w)) in
    let k = file_configs ls in
    let same : k ≡ l.configs = configs_are spelled m.form l in
    let few : k ≤ 8 = omega (arith, l.few) in
    record {
      kind = rw e (kind_is spelled m.form l);
      identity =
          rw e
          (ap identity_of (says spelled (line_number 1)) ∙ identity_is (m.form 1 (omega arith) (omega (arith, laid_many l))) (omega arith));
      lines = rw e (spelled-length spelled);
      configs = rw e same;
      line5 = rw (e, (text_exactly s).only w.lines w.text) (lines_from 4 s);
      ids = λ N h.
          rw e
          (eight_at (λ n. id_of (id_line ls n)) (config_id 0) k N few (omega arith)
          ∙ ap id_of (id_line_lem spelled m.form l N)
          ∙ id_is (id_form l m.form N h));
      crcs = λ N h.
          rw e
          (eight_at (λ n. crc_of (config_crc_line ls n)) 0 k N few (omega arith)
          ∙ ap crc_of (crc_line_lem spelled m.form l N)
          ∙ crc_is (crc_form l m.form N h) (m.crcs N h));
    }
