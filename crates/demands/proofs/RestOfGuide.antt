-- A name for the rest of the guide from each request on, the last request first, so that a held state can be said to stand there.
-- Assumes nothing.
use mathlib.Core.Path.{◌≡◌, refl}
use mathlib.Core.List.{List, [], ◌∷◌}
use mathlib.Core.Bool.{cond}
use Prim.Native.Nat.{ℕ, ◌+◌}
use lib.Dec.{eqb}
use Rattle.counts.specs.Counts.{config_number}
use Rattle.line.specs.declared.Line.{Line}
use Rattle.summary.specs.declared.Summary.{Summary}
use Rattle.bus.specs.Bus.{write_of, word_bytes}
use Rattle.guide.specs.Requests.{point_to, read_data, read_block}
use Rattle.guide.specs.declared.Reason.TheVariants.{Banks}
use Rattle.guide.specs.declared.Verdict.TheVariants.{Mismatch, Halted}
use Rattle.guide.specs.Plan.{Plan, done, file_line}
use Rattle.guide.specs.Judged.{cleared, fit_of, banks_right}
use Rattle.guide.specs.Guide.{put, write, read, step1, gate, step2, lines, polls, step4, step5, id_in, crc_in, verify, step6, guide, target_of}
use Rattle.guide.specs.Requests.{line_request}
use Rattle.guide.specs.Terms.{Terms}
use Rattle.session.specs.declared.Settings.{Settings}
use Rattle.session.specs.Terms.{kept_of, keeping}

-- the terms that a session goes by, with the places that its definition of the rule keeps free
abbrev pub terms_of : Settings → Terms
terms_of S = keeping (kept_of S.rule) S

module _ (T : Terms) (file : Summary) (ls : List Line) where
  -- step 6, for configuration N, with so many left behind it
  unfoldable pub crc_read : ℕ → ℕ → Plan
  crc_read left N =
      read (read_data T.address) λ crc. cond (eqb crc (crc_in file N)) (verify T file left (N + 1)) (done (Mismatch (config_number N)))

  unfoldable pub crc_at : ℕ → ℕ → Plan
  crc_at left N = write (point_to T.address 0x94 0x00) (crc_read left N)

  unfoldable pub restore : ℕ → ℕ → Plan
  restore left N = write (write_of T.address T.restore (id_in file N ∷ [])) (crc_at left N)

  -- step 5
  unfoldable pub banks_read : Plan
  banks_read = read (read_data T.address) λ banks. cond (banks_right file.configs banks) (step6 T file) (done (Halted Banks))

  unfoldable pub banks_at : Plan
  banks_at = write (point_to T.address 0x7F 0x00) banks_read

  -- step 4
  unfoldable pub status_read : ℕ → Plan
  status_read left = polls T.address left banks_at

  unfoldable pub status_at : Plan
  status_at = write (point_to T.address 0x7E 0x00) (status_read T.limit)

  -- step 3, from line i on
  unfoldable pub lines_from : ℕ → List Line → Plan
  lines_from i more = lines T.address i more status_at

  unfoldable pub line_out : ℕ → Line → List Line → Plan
  line_out i l more = put (file_line i) (line_request T.address l) λ _. lines_from (i + 1) more

  -- step 2
  unfoldable pub revision_read : ℕ → ℕ → ℕ → Plan
  revision_read counter identity flag =
      read (read_block T.address 0xAE) λ revision.
      gate (fit_of (target_of file) T.kept (record { counter = counter; identity = identity; flag = flag; revision = revision })) (lines_from 5 ls)

  unfoldable pub flag_read : ℕ → ℕ → Plan
  flag_read counter identity = read (read_data T.address) λ flag. revision_read counter identity flag

  unfoldable pub flag_at : ℕ → ℕ → Plan
  flag_at counter identity = write (point_to T.address 0x87 0xBD) (flag_read counter identity)

  unfoldable pub identity_read : ℕ → Plan
  identity_read counter = read (read_block T.address 0xAD) λ identity. flag_at counter identity

  unfoldable pub counter_read : Plan
  counter_read = read (read_data T.address) λ counter. identity_read counter

  unfoldable pub counter_at : Plan
  counter_at = write (point_to T.address 0x35 0x00) counter_read

  -- step 1
  unfoldable pub capture_apply : Plan
  capture_apply = write (write_of T.address 0xE7 (0x02 ∷ 0x00 ∷ [])) counter_at

  unfoldable pub capture_write : ℕ → Plan
  capture_write w = write (write_of T.address 0xC5 (word_bytes (cleared w))) capture_apply

  unfoldable pub capture_read : Plan
  capture_read = read (read_data T.address) λ w. capture_write w

  unfoldable pub capture_at : Plan
  capture_at = write (point_to T.address 0xA2 0x00) capture_read

  pub guide_is : guide T file ls ≡ cond T.wanted capture_at counter_at
  unfolding guide step1 step2 step4 step5 capture_at capture_read capture_write capture_apply counter_at counter_read identity_read flag_at flag_read revision_read lines_from status_at status_read banks_at banks_read
  guide_is = refl
