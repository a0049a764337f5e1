-- A reply leads where the guide goes, by the request in hand. Assumes nothing.
use mathlib.Core.Path.{◌≡◌, refl, sym, subst}
use mathlib.Core.List.{List}
use mathlib.Core.Bool.{true, or-false}
use Prim.Native.Nat.{ℕ, zero, suc, ◌+◌, ◌*◌, ◌≤◌}
use native.Mathlib.Omega.{arith}
use borrow.Author.Tests.{lt-ltb, le-leb}
use Rattle.line.specs.declared.Line.{Line}
use Rattle.bus.specs.declared.Request.{Request}
use Rattle.bus.specs.Bus.{framed, write_of, read_of, no_request}
use Rattle.guide.specs.Requests.{point_to}
use Rattle.bus.specs.ReplyForm.{form_of}
use Rattle.guide.specs.declared.Reason.TheVariants.{Banks}
use Rattle.guide.specs.declared.Verdict.TheVariants.{Halted}
use Rattle.guide.specs.Judged.{polled_of, banks_right}
use Rattle.guide.specs.Plan.{Reply, Plan, ask, done, verdict}
use Rattle.guide.specs.Guide.{hear, polls}
use Rattle.guide.specs.Requests.{line_request}
use Rattle.session.specs.declared.Session.{Session}
use Rattle.session.specs.declared.Stage.{Stage}
use Rattle.session.specs.declared.Awaited.{Awaited}
use Rattle.session.specs.declared.Awaited.TheVariants.{CaptureAt, CaptureRead, CaptureWrite, CaptureApply, CounterAt, CounterRead, IdentityRead, FlagAt, FlagRead, RevisionRead, LineOut, StatusAt, StatusRead, BanksAt, BanksRead, Restore, CrcAt, CrcRead}
use Rattle.session.specs.Moves.{with_stage, with_position, with_sent, over_of}
use Rattle.session.specs.Sound.{all, most_sent, held_tests, held_sound, state_tests, sound_of}
use Rattle.session.specs.Stages.{at_read, with_counter, with_identity, with_flag, with_revision, counter_done_of, identity_done_of, flag_done_of, fit_held, revision_done_of, status_done_of, banks_done_of}
use Rattle.session.specs.Reply.{follow_of, replied_of, stage_of, reply_of}
use Rattle.demands.specs.Runs.{put_out}
use Rattle.demands.proofs.RestOfGuide
use Rattle.demands.proofs.WhereItStands.{hand_of, Lasting, Bounds, line, config, At, capture_at_lem, capture_read_lem, capture_write_lem, capture_apply_lem, counter_at_lem, counter_read_lem, identity_read_lem, flag_at_lem, flag_read_lem, revision_read_lem, line_out_lem, status_at_lem, status_read_lem, banks_at_lem, banks_read_lem, restore, crc_at_lem, crc_read_lem, Sim, running, finished}
use Rattle.demands.proofs.FitsCall.{root_of, size_of, burn_of, Fits, end_fits, hear_fits, moved_fits, other_fits, cond_fits}
use Rattle.demands.proofs.FitsStep3.{next_line_fits, gate_fits}
use Rattle.demands.proofs.FitsSteps4to6.{polled_fits, first_restore_fits, crc_fits}
use Rattle.demands.proofs.RestOfGuide.{terms_of}
use Rattle.demands.specs.Guided.{answer_for}

-- the plan behind a reply
unfoldable pub onward : Plan → Reply → Plan
onward (ask q next) r = next r
onward (done v) r = done v

module _ (text : List ℕ) (ls : List Line) (s : Session) where
  step_fits : {g : Awaited} {p : Plan} → At text ls s g p → Bounds text ls s → Lasting text ls s.settings s.file → (r : Reply)
      → Fits text ls s (onward p r) (replied_of text s g (form_of (hand_of p) r.kind r.bytes))
  unfolding onward hand_of follow_of write_of read_of framed with_stage with_position with_sent RestOfGuide.capture_at RestOfGuide.capture_read RestOfGuide.capture_write RestOfGuide.capture_apply RestOfGuide.counter_at RestOfGuide.counter_read RestOfGuide.identity_read RestOfGuide.flag_at RestOfGuide.flag_read RestOfGuide.revision_read RestOfGuide.line_out RestOfGuide.status_at RestOfGuide.status_read RestOfGuide.banks_at RestOfGuide.banks_read RestOfGuide.restore RestOfGuide.crc_at RestOfGuide.crc_read polls line_request counter_done_of identity_done_of flag_done_of fit_held revision_done_of status_done_of banks_done_of at_read with_counter with_identity with_flag with_revision
  step_fits (capture_at_lem f) b K r =
      hear_fits text ls s CaptureAt _ _ λ w.
      other_fits text ls s CaptureRead _ _ (omega arith) (capture_read_lem (omega arith)) (omega arith) K
  step_fits (capture_read_lem f) b K r =
      hear_fits text ls s CaptureRead _ _ λ w.
      other_fits text ls s CaptureWrite _ _ (omega arith) (capture_write_lem w (omega arith)) (omega arith) K
  step_fits (capture_write_lem w f) b K r =
      hear_fits text ls s CaptureWrite _ _ λ _.
      other_fits text ls s CaptureApply _ _ (omega arith) (capture_apply_lem (omega arith)) (omega arith) K
  step_fits (capture_apply_lem f) b K r =
      hear_fits text ls s CaptureApply _ _ λ _.
      other_fits text ls s CounterAt _ _ (omega arith) (counter_at_lem (omega arith)) (omega arith) K
  step_fits (counter_at_lem f) b K r =
      hear_fits text ls s CounterAt _ _ λ _.
      other_fits text ls s CounterRead _ _ (omega arith) (counter_read_lem (omega arith)) (omega arith) K
  step_fits (counter_read_lem f) b K r =
      hear_fits text ls s CounterRead _ _ λ w.
      moved_fits text ls s (at_read s.position (with_counter s.position.read w)) IdentityRead _ _ (omega arith)
      (identity_read_lem (omega arith)) (omega arith) K
  step_fits (identity_read_lem f) b K r =
      hear_fits text ls s IdentityRead _ _ λ w.
      moved_fits text ls s (at_read s.position (with_identity s.position.read w)) FlagAt _ _ (omega arith)
      (flag_at_lem (omega arith)) (omega arith) K
  step_fits (flag_at_lem f) b K r =
      hear_fits text ls s FlagAt _ _ λ _.
      other_fits text ls s FlagRead _ _ (omega arith) (flag_read_lem (omega arith)) (omega arith) K
  step_fits (flag_read_lem f) b K r =
      hear_fits text ls s FlagRead _ _ λ w.
      moved_fits text ls s (at_read s.position (with_flag s.position.read w)) RevisionRead _ _ (omega arith)
      (revision_read_lem (omega arith)) (omega arith) K
  step_fits (revision_read_lem f) b K r =
      hear_fits text ls s RevisionRead _ _ λ w.
      gate_fits text ls s (fit_held s w) f K
  step_fits (line_out_lem l more c p e h d) b K r = hear_fits text ls s LineOut _ _ λ _. next_line_fits text ls s l more h d c p e b K
  step_fits (status_at_lem c p) b K r = go s.settings.limit refl
    where
      go : (k : ℕ) → s.settings.limit ≡ k
          → Fits text ls s (hear (form_of (point_to s.settings.address 0x7E 0x00) r.kind r.bytes) λ _. RestOfGuide.status_read (terms_of s.settings) s.file ls k)
          (replied_of text s StatusAt (form_of (point_to s.settings.address 0x7E 0x00) r.kind r.bytes))
      go zero e = absurd (let y : ⊥ = omega arith in y)
      go (suc left) e =
          hear_fits text ls s StatusAt _ _ λ _.
          other_fits text ls s StatusRead _ _ (omega arith)
          (status_read_lem left c (omega arith)) (omega arith) K
  step_fits (status_read_lem left c e) b K r = hear_fits text ls s StatusRead _ _ λ w. polled_fits text ls s K c b left (polled_of w) e
  step_fits (banks_at_lem c) b K r =
      hear_fits text ls s BanksAt _ _ λ _.
      other_fits text ls s BanksRead _ _ (omega arith)
      (banks_read_lem c) (omega arith) K
  step_fits (banks_read_lem c) b K r =
      hear_fits text ls s BanksRead _ _ λ w.
      cond_fits text ls s (banks_right s.file.configs w) (first_restore_fits text ls s K b s.file.configs refl) (end_fits text ls s (Halted Banks))
  step_fits (restore left e) b K r =
      hear_fits text ls s Restore _ _ λ _.
      other_fits text ls s CrcAt _ _ (omega arith)
      (crc_at_lem left e) (omega arith) K
  step_fits (crc_at_lem left e) b K r =
      hear_fits text ls s CrcAt _ _ λ _.
      other_fits text ls s CrcRead _ _ (omega arith)
      (crc_read_lem left e) (omega arith) K
  step_fits (crc_read_lem left e) b K r = hear_fits text ls s CrcRead _ _ λ w. crc_fits text ls s K b left w e

  -- 15 lets such a state pass
  sound_true : Bounds text ls s → s.sent ≤ most_sent s → Lasting text ls s.settings s.file → sound_of s ≡ true
  unfolding sound_of state_tests held_sound held_tests most_sent all
  sound_true b n K =
      rw (
        K.allowed,
        K.sound,
        le-leb 5 (line text ls s) b.low,
        le-leb (line text ls s) s.file.lines b.high,
        lt-ltb (config text ls s) s.file.configs b.configs,
        lt-ltb s.position.polls s.settings.limit b.polling,
        le-leb s.sent (s.file.lines + s.settings.limit + 3 * s.file.configs + 9) n,
      )

  stage_fits : {g : Stage} {p : Plan} → Sim text ls s g p → Sim text ls s s.stage p → s.sent ≤ most_sent s → (r : Reply)
      → Fits text ls s (onward p r) (stage_of text s r.kind r.bytes g)
  unfolding stage_of onward over_of no_request put_out root_of size_of burn_of verdict answer_for
  stage_fits {p = p} (running {g} w h a b K) x n r =
      rw (sound_true b n K)
      (subst (λ (q : Request). Fits text ls s (onward p r) (replied_of text s g (form_of q r.kind r.bytes))) (sym h) (step_fits a b K r))
  stage_fits finished x n r =
      record {
        sim = x;
        out = refl;
        settings = refl;
        file = refl;
        counting = omega arith;
        burning = sym (or-false s.burned);
        says = refl;
      }

  pub reply_fits : {p : Plan} → Sim text ls s s.stage p → s.sent ≤ most_sent s → (r : Reply) → Fits text ls s (onward p r) (reply_of text s r.kind r.bytes)
  unfolding reply_of
  reply_fits x n r = stage_fits x x n r
