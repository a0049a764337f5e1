-- Where a state stands in the guide: the rest of it from the request in hand, and what is known of the state there. The rest is
-- named by the state's own fields, so that no equation between state and settings is carried along. Assumes nothing.
use mathlib.Core.Path.{◌≡◌}
use mathlib.Core.List.{List, [], ◌∷◌}
use mathlib.Core.Bool.{true}
use Prim.Native.Nat.{ℕ, suc, ◌+◌, ◌≤◌, ◌<◌}
use lib.ListN.{length}
use Rattle.line.specs.declared.Line.{Line}
use Rattle.summary.specs.declared.Summary.{Summary}
use Rattle.image.proofs.Holds.{Holds, BurnLast}
use Rattle.bus.specs.declared.Request.{Request}
use Rattle.bus.specs.Bus.{no_request}
use Rattle.guide.specs.declared.Verdict.{Verdict}
use Rattle.guide.specs.Plan.{Plan, ask, done, waiting, verdict}
use Rattle.session.specs.declared.Settings.{Settings}
use Rattle.session.specs.declared.Session.{Session}
use Rattle.session.specs.declared.Stage.{Stage}
use Rattle.session.specs.declared.Stage.TheVariants.{Open, Ended}
use Rattle.session.specs.declared.Awaited.{Awaited}
use Rattle.session.specs.declared.Awaited.TheVariants.{CaptureAt, CaptureRead, CaptureWrite, CaptureApply, CounterAt, CounterRead, IdentityRead, FlagAt, FlagRead, RevisionRead, LineOut, StatusAt, StatusRead, BanksAt, BanksRead, Restore, CrcAt, CrcRead}
use Rattle.session.specs.Sound.{allowed_of, file_sound}
use Rattle.demands.proofs.RestOfGuide
use Rattle.demands.proofs.RestOfGuide.{terms_of}

-- the request in hand of a plan, none where it is done
unfoldable pub hand_of : Plan → Request
hand_of (ask q next) = q.request
hand_of (done v) = no_request

module _ (text : List ℕ) (ls : List Line) where
  -- what an accepted file and allowed settings leave known, which no reply changes
  pub record Lasting (S : Settings) (file : Summary) : Type 0 where
    pub allowed : allowed_of S ≡ true
    pub sound : file_sound file ≡ true
    pub some_poll : 1 ≤ S.limit
    pub some_config : 1 ≤ file.configs
    pub some_line : 1 ≤ length ls
    pub lines_are : file.lines ≡ 4 + length ls
    pub holds : Holds text file.line5 5 ls
    pub burns : BurnLast ls

  -- within what 15 asks of where a state is
  pub record Bounds (s : Session) : Type 0 where
    pub low : 5 ≤ s.position.line.0
    pub high : s.position.line.0 ≤ s.file.lines
    pub configs : s.position.config.0 < s.file.configs
    pub polling : s.position.polls < s.settings.limit

  -- before any write line
  pub record Fresh (s : Session) : Type 0 where
    pub from_start : s.position.place ≡ s.file.line5
    pub at_five : s.position.line.0 ≡ 5
    pub no_configs : s.position.config.0 ≡ 0
    pub no_polls : s.position.polls ≡ 0

  module _ (s : Session) where
    abbrev pub F : Summary
    F = s.file

    abbrev pub G : Settings
    G = s.settings

    abbrev pub line : ℕ
    line = s.position.line.0

    abbrev pub config : ℕ
    config = s.position.config.0

    -- the step, and the rest of the guide
    pub data At : Awaited → Plan → Type 0 where
      capture_at_lem : Fresh s → At CaptureAt (RestOfGuide.capture_at (terms_of G) F ls)
      capture_read_lem : Fresh s → At CaptureRead (RestOfGuide.capture_read (terms_of G) F ls)
      capture_write_lem : (w : ℕ) → Fresh s → At CaptureWrite (RestOfGuide.capture_write (terms_of G) F ls w)
      capture_apply_lem : Fresh s → At CaptureApply (RestOfGuide.capture_apply (terms_of G) F ls)
      counter_at_lem : Fresh s → At CounterAt (RestOfGuide.counter_at (terms_of G) F ls)
      counter_read_lem : Fresh s → At CounterRead (RestOfGuide.counter_read (terms_of G) F ls)
      identity_read_lem : Fresh s → At IdentityRead (RestOfGuide.identity_read (terms_of G) F ls s.position.read.counter)
      flag_at_lem : Fresh s → At FlagAt (RestOfGuide.flag_at (terms_of G) F ls s.position.read.counter s.position.read.identity)
      flag_read_lem : Fresh s → At FlagRead (RestOfGuide.flag_read (terms_of G) F ls s.position.read.counter s.position.read.identity)
      revision_read_lem : Fresh s → At RevisionRead (RestOfGuide.revision_read (terms_of G) F ls s.position.read.counter s.position.read.identity s.position.read.flag)
      line_out_lem : (l : Line) (more : List Line) → config ≡ 0 → s.position.polls ≡ 0 → line + length more ≡ F.lines
          → Holds text s.position.place (line + 1) more → BurnLast (l ∷ more) → At LineOut (RestOfGuide.line_out (terms_of G) F ls line l more)
      status_at_lem : config ≡ 0 → s.position.polls ≡ 0 → At StatusAt (RestOfGuide.status_at (terms_of G) F ls)
      status_read_lem : (left : ℕ) → config ≡ 0 → s.position.polls + suc left ≡ G.limit
          → At StatusRead (RestOfGuide.status_read (terms_of G) F ls (suc left))
      banks_at_lem : config ≡ 0 → At BanksAt (RestOfGuide.banks_at (terms_of G) F ls)
      banks_read_lem : config ≡ 0 → At BanksRead (RestOfGuide.banks_read (terms_of G) F ls)
      restore : (left : ℕ) → config + suc left ≡ F.configs → At Restore (RestOfGuide.restore (terms_of G) F ls left config)
      crc_at_lem : (left : ℕ) → config + suc left ≡ F.configs → At CrcAt (RestOfGuide.crc_at (terms_of G) F ls left config)
      crc_read_lem : (left : ℕ) → config + suc left ≡ F.configs → At CrcRead (RestOfGuide.crc_read (terms_of G) F ls left config)

    pub data Sim : Stage → Plan → Type 0 where
      running : {g : Awaited} {p : Plan} → verdict p [] ≡ waiting → s.hand ≡ hand_of p → At g p → Bounds s → Lasting G F → Sim (Open g) p
      finished : {v : Verdict} → Sim (Ended v) (done v)
