-- A reply in form leaves a session where it stands or takes it one request on, whatever the text that is lent. Assumes nothing.
use Prim.Native.Nat.{ℕ, ◌+◌, ◌≤◌}
use mathlib.Core.Path.{◌≡◌, refl, sym, ap, subst, ◌∙◌}
use mathlib.Core.Bool.{Bool, true, false, true≢false}
use mathlib.Core.List.{List, [], ◌∷◌, ◌++◌, append_assoc}
use native.Mathlib.Omega.{arith}
use Rattle.std.specs.Prelude.{Ok}
use Rattle.counts.specs.declared.LineNumber.{LineNumber}
use Rattle.line.specs.declared.Line.{Line}
use Rattle.bus.specs.declared.Request.{Request}
use Rattle.bus.specs.ReplyForm.{form_of}
use Rattle.bus.specs.InForm.{register, block}
use Rattle.guide.specs.declared.Words.{Words}
use Rattle.guide.specs.Requests.{point_to, read_data, read_block, line_request}
use Rattle.guide.specs.Plan.{Reply}
use Rattle.guide.specs.Matched.{Exchange, wrote, got, Heard, asked_in, heard1}
use Rattle.session.specs.declared.Session.{Session}
use Rattle.session.specs.declared.Awaited.{Awaited}
use Rattle.session.specs.declared.Awaited.TheVariants.{CaptureRead, CaptureWrite, CaptureApply, CounterAt, CounterRead, IdentityRead, FlagAt, FlagRead, RevisionRead, LineOut}
use Rattle.session.specs.Moves.{address_of, with_stage, with_position, with_burned, with_sent}
use Rattle.session.specs.Lines.{at_line}
use Rattle.session.specs.Stages.{at_read, at_polls, at_config, having_read, with_counter, with_identity, with_flag, with_revision}
use Rattle.demands.specs.Exactly.{Due, first, later}
use Rattle.demands.proofs.CanEnd.{asked_both}
use Rattle.demands.proofs.SettingsSay.{kept_is}
use Rattle.demands.proofs.FitsCall.{holding}
use Rattle.demands.proofs.EveryStep as step
use Rattle.demands.proofs.EveryStep.{from_first, next_one, Step}
use Rattle.demands.proofs.PutsOut.{Held}
use Rattle.demands.proofs.WhereLent.{heard_one, was_read, was_written, before2, opening_is, Opened, Behind, In2, Where, matched_later}

module _ (s : Session) (rs : List Reply) (out : List Request) (r : Reply) (w : ℕ) (held : Held s) (form : form_of s.hand r.kind r.bytes ≡ Ok w) where
  abbrev a : ℕ
  a = address_of s

  abbrev heard : List Reply
  heard = rs ++ (r ∷ [])

  -- ---- steps 1 and 2

  -- the request in hand was this one
  was : {most : ℕ} {xs : List Exchange} {q : Request} → Opened s rs out most xs q → form_of q r.kind r.bytes ≡ Ok w
  was o = rw o.hand at form

  -- its reply was heard, and the next is asked
  on : {most : ℕ} {xs : List Exchange} {q : Request} → Opened s rs out most xs q → (x : Exchange) → x.request ≡ q → Heard (x ∷ []) (r ∷ []) []
      → (read : Words) (g : Awaited) (p : Request) → Opened (holding (having_read s read) g p) heard (out ++ (p ∷ [])) (most + 1) (xs ++ (x ∷ [])) p
  unfolding with_sent with_stage with_position at_read asked_in
  on {xs = xs} o x e k read g p =
      record {
        heard = heard_one o.heard k;
        asked =
            ap (λ (l : List Request). l ++ (p ∷ []))
            (o.asked ∙ sym (asked_both xs (x ∷ []) ∙ ap (λ (z : Request). asked_in xs ++ (z ∷ [])) e));
        hand = refl;
        few = omega (arith, o.few);
        line = o.line;
        config = o.config;
        polls = o.polls;
        some = o.some;
      }

  on2 : {most c : ℕ} {xs : List Exchange} {q : Request} → In2 s rs out most c xs q → (x : Exchange) → x.request ≡ q → Heard (x ∷ []) (r ∷ []) []
      → (read : Words) (g : Awaited) (p : Request) → In2 (holding (having_read s read) g p) heard (out ++ (p ∷ [])) (most + 1) c (xs ++ (x ∷ [])) p
  unfolding with_sent with_stage with_position at_read
  on2 {c = c} {xs = xs} o x e k read g p =
      record { opened = rw (← append_assoc (before2 a s.settings.wanted c) xs (x ∷ [])) (on o.opened x e k read g p) }

  -- what is heard in step 2 before the revision
  abbrev five : List Exchange
  five =
      let word = s.position.read in
      wrote (point_to a 0x35 0x00) ∷ got (read_data a) word.counter ∷ got (read_block a 0xAD) word.identity ∷ wrote (point_to a 0x87 0xBD)
      ∷ got (read_data a) word.flag ∷ []

  -- where step 1 was wanted, it stands before step 2
  wanted_is : (b : Bool) (c : ℕ) → b ≡ true → heard1 a c ≡ before2 a b c ++ []
  unfolding before2
  wanted_is true c e = refl
  wanted_is false c e = absurd (true≢false (sym e))

  -- ---- steps 3 to 6

  behind : {most : ℕ} → Behind s rs out most → (t : Session) → t.settings ≡ s.settings → t.file ≡ s.file → t.sent ≡ s.sent → (g : Awaited) (p : Request)
      (top : ℕ) → most + 1 ≤ top → Behind (holding t g p) heard (out ++ (p ∷ [])) top
  unfolding with_sent with_stage
  behind o t e f n g p top h = record { matched = rw (e, f) (matched_later s rs out (r ∷ []) o.matched); few = omega (arith, o.few, n, h) }

  abbrev After : Session → Awaited → Request → Type 0
  After t g p = Where (holding t g p) heard (out ++ (p ∷ [])) g

  module _ (text : List ℕ) where
    -- line 5 is due behind the AE reply where the words that were read fit the summary, and a later one behind a line
    line_stays : (g : Awaited) (n : LineNumber) → Due s w g n → (l : Line) (next : ℕ) (b : Bool) → Where s rs out g
        → After (with_burned (with_position s (at_line s.position n next)) b) LineOut (line_request a l)
    unfolding Where with_sent with_stage with_position with_burned at_line with_revision
    line_stays g n (first kept k fits) l next b (c, o) =
        let x = o.opened in
        let read = with_revision s.position.read w in
        let came = heard_one x.heard (was_read (block a 0xAE) r w (was x)) in (
          record {
            matched = (
              rw (kept_is k) k,
              record {
                captured = c;
                read = read;
                left = [];
                came = rw (opening_is a s.settings.wanted c read ∙ sym (append_assoc (before2 a s.settings.wanted c) five (got (read_block a 0xAE) w ∷ []))) came;
                fits = rw (kept_is k) fits;
              },
            );
            few = omega (arith, x.few);
          },
          omega (arith, held.line, x.line),
          x.polls,
        )
    line_stays g n (later h) l next b (o, few, polls) =
        (behind o (with_burned (with_position s (at_line s.position n next)) b) refl refl refl _ _ _ (omega arith), omega (arith, h), polls)

    pub stays : (g : Awaited) (t : Session) (next : Awaited) (p : Request) → Step text s w g t next p → Where s rs out g → After t next p
    unfolding Where with_sent with_stage with_position at_read at_polls at_config with_counter with_identity with_flag
    stays g _ _ _ step.capture_read_lem (e, o) = (e, on o (wrote _) refl (was_written a 0xC7 _ r w (was o)) _ CaptureRead _)
    stays g _ _ _ step.capture_write_lem (e, o) = (w, (e, on o (got _ w) refl (was_read (register a) r w (was o)) _ CaptureWrite _))
    stays g _ _ _ step.capture_apply_lem (c, (e, o)) = (c, (e, on o (wrote _) refl (was_written a 0xC5 _ r w (was o)) _ CaptureApply _))
    stays g _ _ _ step.counter_at_lem (c, (e, o)) = (
      c,
      record {
        opened = subst (λ l. Opened (holding s CounterAt (point_to a 0x35 0x00)) heard (out ++ (point_to a 0x35 0x00 ∷ [])) 5 l (point_to a 0x35 0x00)) (wanted_is s.settings.wanted c e)
            (on o (wrote _) refl (was_written a 0xE7 _ r w (was o)) _ CounterAt _);
      },
    )
    stays g _ _ _ step.counter_read_lem (c, o) = (c, on2 o (wrote _) refl (was_written a 0xC7 _ r w (was o.opened)) _ CounterRead _)
    stays g _ _ _ step.identity_read_lem (c, o) = (c, on2 o (got _ w) refl (was_read (register a) r w (was o.opened)) _ IdentityRead _)
    stays g _ _ _ step.flag_at_lem (c, o) = (c, on2 o (got _ w) refl (was_read (block a 0xAD) r w (was o.opened)) _ FlagAt _)
    stays g _ _ _ step.flag_read_lem (c, o) = (c, on2 o (wrote _) refl (was_written a 0xC7 _ r w (was o.opened)) _ FlagRead _)
    stays g _ _ _ step.revision_read_lem (c, o) = (c, on2 o (got _ w) refl (was_read (register a) r w (was o.opened)) _ RevisionRead _)
    stays g _ _ _ (step.line_out_lem _ n d l next e _ b _ _) o = line_stays g n d l next b o
    stays g _ _ _ (step.status_at_lem h) (o, few, polls) = (behind o s refl refl refl _ _ _ (omega (arith, few)), polls)
    stays g _ _ _ step.status_read_lem (o, polls) = (behind o s refl refl refl _ _ _ (omega (arith, polls)), held.polls)
    stays g _ _ _ (step.again h) (o, p) = (behind o (with_position s (at_polls s.position (s.position.polls + 1))) refl refl refl _ _ _ (omega arith), h)
    stays g _ _ _ step.banks_at_lem (o, p) = behind o s refl refl refl _ _ _ (omega (arith, p))
    stays g _ _ _ step.banks_read_lem o = behind o s refl refl refl _ _ _ (omega arith)
    stays g _ _ _ (step.restore _ N from_first) o = (behind o (with_position s (at_config s.position N)) refl refl refl _ _ _ (omega arith), omega (arith, held.config))
    stays g _ _ _ (step.restore _ N (next_one f)) (o, h) = (behind o (with_position s (at_config s.position N)) refl refl refl _ _ _ (omega arith), f)
    stays g _ _ _ step.crc_at_lem (o, h) = (behind o s refl refl refl _ _ _ (omega arith), h)
    stays g _ _ _ step.crc_read_lem (o, h) = (behind o s refl refl refl _ _ _ (omega arith), h)
