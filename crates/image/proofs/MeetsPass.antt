-- A file that is what document 01 asks passes each test. Assumes nothing.
use mathlib.Core.Path.{◌≡◌, ap, ◌∙◌}
use mathlib.Core.Logic.{inl, inr}
use mathlib.Core.Bool.{false, not}
use mathlib.Core.List.{List}
use Prim.Native.Nat.{ℕ, ◌≤◌, ◌<◌}
use native.Mathlib.Omega.{arith}
use lib.ListN.{length}
use borrow.Author.Tests.{le-ltb, ne_eqb}
use Rattle.counts.specs.Counts.{line_number}
use Rattle.cuts.specs.Lines.{lines_of}
use Rattle.cuts.proofs.TextExactly.{text_exactly}
use Rattle.image.specs.Tests.{is_unknown, known_device, too_long, too_few, other_revision, other_device, fits_none, burn_amiss, other_spot, same_ids}
use Rattle.image.specs.Meets.{Accepts29, Laid, MeetsValues, numbered, Spelled, Meets}
use Rattle.image.proofs.Search.{refuted}
use Rattle.image.proofs.TestsPass.{Passed}
use Rattle.image.proofs.LineBytes.{bytes_known}
use Rattle.image.proofs.LinesAndBytes.{Forms, spelled-length, says, form_reads}
use Rattle.image.proofs.LaidOut.{laid_many, kind_said, configs_are}
use Rattle.image.proofs.WholeTests.{BurnAmiss, SpotAmiss, burn_amiss_lem, spot_amiss, ids_same}

-- its lines are those that the definition cuts
pub spelled_of : {s : List ℕ} (w : Meets s) → Spelled (lines_of s) w.values
spelled_of {s} w = rw ((text_exactly s).only w.lines w.text) at w.spelled

module _ {ls vs : List (List ℕ)} (spelled : Spelled ls vs) (forms : Forms vs) where
  pub revision_passes : Laid vs → other_revision ls ≡ false
  unfolding other_revision is_unknown
  revision_passes l = ap is_unknown (kind_said spelled forms l)

  pub device_passes : 1 ≤ length vs → Accepts29 (numbered vs 1) → other_device ls ≡ false
  unfolding other_device
  device_passes h a = ap not (ap known_device (says spelled (line_number 1)) ∙ bytes_known (forms 1 (omega arith) h) (omega arith) a)

  pub count_passes : Laid vs → fits_none ls ≡ false
  unfolding fits_none
  count_passes l = rw (configs_are spelled forms l) (ne_eqb l.configs 0 (λ z. let y : ⊥ = omega (arith, l.some) in y))

module _ {ls vs : List (List ℕ)} (spelled : Spelled ls vs) (m : MeetsValues vs) where
  burn_passes : burn_amiss ls ≡ false
  burn_passes = refuted (burn_amiss ls) (λ e. amiss (burn_amiss_lem spelled m.form (omega (arith, laid_many m.laid)) e))
    where
      amiss : BurnAmiss vs → ⊥
      amiss (inl f) = f m.burn_last
      amiss (inr (n, g, h, b)) = m.burn_once n g h b

  spots_pass : other_spot ls ≡ false
  spots_pass = refuted (other_spot ls) (λ e. let q = spot_amiss spelled m.form m.laid e in amiss q.0 q.1 q.2)
    where
      amiss : (N : ℕ) → N < m.laid.configs → SpotAmiss m.laid N → ⊥
      amiss N h (inl f) = f (m.ids N h)
      amiss N h (inr f) = f (m.crcs N h)

  ids_pass : same_ids ls ≡ false
  ids_pass = refuted (same_ids ls) (λ e. let q = ids_same spelled m.form m.laid e in m.differ q.0 q.1 q.2 q.3 q.4)

pub met : {s : List ℕ} → Meets s → Passed s
unfolding too_long too_few
met {s} w =
    let m = w.meets in
    let spelled = spelled_of w in
    let many = laid_many m.laid in
    let size = spelled-length spelled in
    record {
      short = le-ltb 65536 (length s) w.size;
      reads = form_reads spelled m.form;
      many = le-ltb (length (lines_of s)) 13 (omega arith);
      revision = revision_passes spelled m.form m.laid;
      device = device_passes spelled m.form (omega arith) m.device;
      fits = count_passes spelled m.form m.laid;
      burn = burn_passes spelled m;
      spots = spots_pass spelled m;
      differ = ids_pass spelled m;
    }
