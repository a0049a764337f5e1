-- Steps 4 to 6: the polls that are left, and the configurations that are left. Assumes nothing.
use mathlib.Core.Path.{◌≡◌}
use mathlib.Core.List.{List}
use mathlib.Core.Bool.{cond}
use Prim.Native.Nat.{ℕ, zero, suc, ◌+◌}
use native.Mathlib.Omega.{arith}
use lib.Dec.{eqb}
use borrow.Author.Tests.{lt-ltb, le-ltb}
use Rattle.counts.specs.Counts.{config_number}
use Rattle.line.specs.declared.Line.{Line}
use Rattle.bus.specs.Bus.{framed, write_of, read_of}
use Rattle.guide.specs.declared.Reason.TheVariants.{Program}
use Rattle.guide.specs.declared.Verdict.TheVariants.{Done, Mismatch, Halted}
use Rattle.guide.specs.declared.Polled.{Polled}
use Rattle.guide.specs.declared.Polled.TheVariants.{Busy, Passed, Failed}
use Rattle.guide.specs.Plan.{done}
use Rattle.guide.specs.Guide.{polled, polls, crc_in, verify}
use Rattle.session.specs.declared.Session.{Session}
use Rattle.session.specs.declared.Awaited.TheVariants.{StatusRead, BanksAt, Restore}
use Rattle.session.specs.Moves.{with_stage, with_position, with_sent}
use Rattle.session.specs.Stages.{at_polls, at_config, poll_again_of, polled_done_of, restore_of, restore_next_of, crc_done_of}
use Rattle.demands.proofs.RestOfGuide
use Rattle.demands.proofs.WhereItStands.{Lasting, Bounds, config, status_read_lem, banks_at_lem, restore}
use Rattle.demands.proofs.FitsCall.{Fits, end_fits, moved_fits, other_fits, cond_fits}
use Rattle.demands.proofs.RestOfGuide.{terms_of}

module _ (text : List ℕ) (ls : List Line) (s : Session) (K : Lasting text ls s.settings s.file) where
  -- ---- step 4

  module _ (c : config text ls s ≡ 0) (b : Bounds text ls s) where
    poll_again_fits : (left : ℕ) → s.position.polls + suc left ≡ s.settings.limit
        → Fits text ls s (RestOfGuide.status_read (terms_of s.settings) s.file ls left) (poll_again_of s)
    unfolding RestOfGuide.status_read polls read_of poll_again_of at_polls with_position with_stage with_sent
    poll_again_fits zero e = rw (le-ltb (s.position.polls + 1) s.settings.limit (omega arith)) (end_fits text ls s (Halted Program))
    poll_again_fits (suc left) e =
        rw (lt-ltb (s.position.polls + 1) s.settings.limit (omega arith))
        (moved_fits text ls s (at_polls s.position (s.position.polls + 1)) StatusRead _ _ (omega arith)
        (status_read_lem left c (omega arith)) (omega arith) K)

    pub polled_fits : (left : ℕ) (x : Polled) → s.position.polls + suc left ≡ s.settings.limit
        → Fits text ls s (polled x (RestOfGuide.status_read (terms_of s.settings) s.file ls left) (RestOfGuide.banks_at (terms_of s.settings) s.file ls)) (polled_done_of s x)
    unfolding polled polled_done_of RestOfGuide.banks_at write_of framed with_stage with_sent
    polled_fits left Busy e = poll_again_fits left e
    polled_fits left Passed e =
        other_fits text ls s BanksAt _ _ (omega arith) (banks_at_lem c) (omega arith) K
    polled_fits left Failed e = end_fits text ls s (Halted Program)

  -- ---- step 6

  module _ (b : Bounds text ls s) where
    restore_fits : (left N : ℕ) → N + suc left ≡ s.file.configs
        → Fits text ls s (verify (terms_of s.settings) s.file (suc left) N) (restore_of s (config_number N))
    unfolding verify RestOfGuide.restore RestOfGuide.crc_at RestOfGuide.crc_read write_of framed restore_of at_config with_position with_stage with_sent
    restore_fits left N e =
        moved_fits text ls s (at_config s.position (config_number N)) Restore _ _ (omega arith) (restore left e) (omega arith) K

    pub first_restore_fits : (k : ℕ) → s.file.configs ≡ k
        → Fits text ls s (verify (terms_of s.settings) s.file k 0) (restore_of s (config_number 0))
    first_restore_fits zero e = absurd (let y : ⊥ = omega arith in y)
    first_restore_fits (suc left) e = restore_fits left 0 (omega arith)

    next_restore_fits : (left : ℕ) → config text ls s + suc left ≡ s.file.configs
        → Fits text ls s (verify (terms_of s.settings) s.file left (config text ls s + 1)) (restore_next_of s)
    unfolding restore_next_of verify
    next_restore_fits zero e = rw (le-ltb (config text ls s + 1) s.file.configs (omega arith)) (end_fits text ls s Done)
    next_restore_fits (suc left) e =
        rw (lt-ltb (config text ls s + 1) s.file.configs (omega arith))
        (restore_fits left (config text ls s + 1) (omega arith))

    pub crc_fits : (left w : ℕ) → config text ls s + suc left ≡ s.file.configs
        → Fits text ls s
        (cond (eqb w (crc_in s.file (config text ls s))) (verify (terms_of s.settings) s.file left (config text ls s + 1))
        (done (Mismatch s.position.config)))
        (crc_done_of s w)
    unfolding crc_done_of
    crc_fits left w e =
        cond_fits text ls s (eqb w (crc_in s.file (config text ls s))) (next_restore_fits left e)
        (end_fits text ls s (Mismatch s.position.config))
