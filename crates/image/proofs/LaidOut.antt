-- How the bytes say that a file is laid out is how the definitions find it: kind, count of configurations and their lines. Assumes nothing.
use mathlib.Core.Path.{◌≡◌, sym, ap, ◌∙◌}
use mathlib.Core.Bool.{false}
use mathlib.Core.List.{List}
use Prim.Native.Nat.{ℕ, ◌+◌, ◌*◌, ◌≤◌, ◌<◌}
use native.Mathlib.Omega.{arith}
use lib.ListN.{length}
use borrow.Author.Tests.{eqb-false}
use Rattle.std.specs.Prelude.{Some}
use Rattle.counts.specs.Counts.{line_number, step_of, crc_place, kind_of, configs_of}
use Rattle.line.specs.Reading.{line_of}
use Rattle.line.specs.LineForm.{LineForm}
use Rattle.image.specs.Says.{kind_in, revision_says, file_kind, file_configs, id_line, config_crc_line}
use Rattle.image.specs.Tests.{is_unknown, other_revision, fits_none}
use Rattle.image.specs.Meets.{data_in, numbered, Laid, id_bytes, crc_bytes, Spelled}
use Rattle.image.proofs.Counting.{has_kind, kind_has, configs_is, count_is, many_lines, id_within, crc_within, crc_some}
use Rattle.image.proofs.LinesAndBytes.{Forms, spelled-length, says, revision_is}

-- ---- a layout

module _ {vs : List (List ℕ)} (l : Laid vs) where
  steps : l.step ≡ step_of l.kind
  steps = (has_kind l.revision).steps

  places : l.crc_place ≡ crc_place l.kind
  places = (has_kind l.revision).places

  counted : length vs ≡ 12 + step_of l.kind * l.configs
  counted = rw steps at l.count

  pub laid_many : 13 ≤ length vs
  laid_many = many_lines l.kind (length vs) l.configs l.some counted

  -- the identifier line and the CRC line of each configuration are lines of the file
  module _ (forms : Forms vs) (N : ℕ) (h : N < l.configs) where
    pub id_form : LineForm (l.step * N + 12) (id_bytes l N)
    id_form = forms (l.step * N + 12) (omega arith) (rw steps (id_within l.kind counted h))

    pub crc_form : LineForm (l.step * N + l.crc_place) (crc_bytes l N)
    crc_form = forms (l.step * N + l.crc_place) (rw (steps, places) (crc_some l.kind N)) (rw (steps, places) (crc_within l.kind counted h))

module _ {ls vs : List (List ℕ)} (spelled : Spelled ls vs) (forms : Forms vs) where
  -- ---- what the definitions find of it

  module _ (l : Laid vs) where
    pub kind_said : revision_says ls ≡ Some l.kind
    kind_said = revision_is spelled forms (omega (arith, laid_many l)) ∙ (has_kind l.revision).found

    pub kind_is : file_kind ls ≡ l.kind
    unfolding file_kind kind_in
    kind_is = ap kind_in kind_said

    pub configs_are : file_configs ls ≡ l.configs
    unfolding file_configs
    configs_are = rw kind_is (configs_is l.kind (length ls) l.configs l.few (spelled-length spelled ∙ counted l))

    pub id_line_lem : (N : ℕ) → id_line ls N ≡ line_of (id_bytes l N)
    unfolding id_line
    id_line_lem N = rw (kind_is, steps l) (says spelled (line_number (step_of l.kind * N + 12)))

    pub crc_line_lem : (N : ℕ) → config_crc_line ls N ≡ line_of (crc_bytes l N)
    unfolding config_crc_line
    crc_line_lem N = rw (kind_is, steps l, places l) (says spelled (line_number (step_of l.kind * N + crc_place l.kind)))

  -- ---- and a layout is found where the tests of revision and count pass

  module _ (many : 13 ≤ length vs) where
    pub said : revision_says ls ≡ kind_of (data_in 0 (numbered vs 2))
    said = revision_is spelled forms (omega arith)

    pub laid_out : other_revision ls ≡ false → fits_none ls ≡ false → Laid vs
    unfolding other_revision fits_none file_kind file_configs
    laid_out revision fits =
        let b = data_in 0 (numbered vs 2) in
        let kind = kind_in (kind_of b) in
        let k = configs_of kind (length vs) in
        let configs : file_configs ls ≡ k = rw (said, spelled-length spelled) in
        let some : 1 ≤ k = omega (arith, eqb-false (file_configs ls) 0 fits, configs) in
        let count = count_is kind (length vs) some in
        record {
          kind = kind;
          step = step_of kind;
          crc_place = crc_place kind;
          revision = kind_has b (ap is_unknown (sym said) ∙ revision);
          configs = k;
          some = some;
          few = count.1;
          count = count.0;
        }
