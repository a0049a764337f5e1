-- Every reply in form ends in one of three exits: a request is put out, which one is said step by step, a verdict, or the refusal of the
-- state where a write line is due and what stands at the held place may not go out. The rule that is held is known, since 15 comes first.
-- Assumes nothing.
use Rattle.std.specs.Prelude.{Some, None, Ok, Err}
use Prim.Native.Nat.{ℕ, ◌+◌, ◌≤◌, ◌<◌}
use mathlib.Core.Path.{◌≡◌, refl, sym, ◌∙◌}
use mathlib.Core.Logic.{◌↔◌}
use mathlib.Core.Bool.{Bool, true, false, cond, true≢false}
use mathlib.Core.List.{List, [], ◌∷◌}
use native.Mathlib.Omega.{arith}
use lib.Dec.{eqb, ltb}
use borrow.Author.Tests.{ltb-true, ltb-false, eqb-true, eqb-false}
use Rattle.std.specs.Prelude.{Result, Ok, Err}
use Rattle.counts.specs.declared.LineNumber.{LineNumber}
use Rattle.counts.specs.declared.ConfigNumber.{ConfigNumber}
use Rattle.counts.specs.Counts.{line_number, config_number}
use Rattle.line.specs.declared.Line.{Line}
use Rattle.line.specs.Reading.{next_line, NextLine}
use Rattle.summary.specs.Burn.{is_burn}
use Rattle.bus.specs.Bus.{write_of, word_bytes}
use Rattle.guide.specs.declared.Reason.{Reason}
use Rattle.guide.specs.Requests.{point_to, read_data, read_block, line_request}
use Rattle.bus.specs.declared.Request.{Request}
use Rattle.guide.specs.declared.Verdict.{Verdict}
use Rattle.guide.specs.declared.Reason.TheVariants.{Program, Banks}
use Rattle.guide.specs.declared.Verdict.TheVariants.{Done, Mismatch, Halted}
use Rattle.guide.specs.declared.Polled.{Polled}
use Rattle.guide.specs.declared.Polled.TheVariants.{Busy, Passed, Failed}
use Rattle.guide.specs.Judged.{cleared, polled_of, banks_right}
use Rattle.guide.specs.Guide.{id_in, crc_in, target_of}
use Rattle.guide.proofs.JudgedExactly.{judged_exactly}
use Rattle.session.specs.declared.Position.{Position}
use Rattle.session.specs.declared.Session.{Session}
use Rattle.session.specs.declared.Handed.{Handed}
use Rattle.session.specs.declared.Awaited.{Awaited}
use Rattle.session.specs.declared.Awaited.TheVariants.{CaptureAt, CaptureRead, CaptureWrite, CaptureApply, CounterAt, CounterRead, IdentityRead, FlagAt, FlagRead, RevisionRead, LineOut, StatusAt, StatusRead, BanksAt, BanksRead, Restore, CrcAt, CrcRead}
use Rattle.session.specs.Moves.{address_of, with_position, with_burned, put_of, end_of, bad_of}
use Rattle.session.specs.Lines.{at_line, due_put_of, took_of, due_of, put_line_of, line_done_of}
use Rattle.session.specs.Stages.{counter_done_of, identity_done_of, flag_done_of, fit_done_of, fit_held, revision_done_of, poll_again_of, polled_done_of, status_done_of, restore_of, banks_done_of, restore_next_of, crc_done_of, at_polls, at_config, having_read, with_counter, with_identity, with_flag, with_revision}
use Rattle.session.specs.Reply.{follow_of}
use Rattle.demands.specs.Exactly.{Due, first, later, Unfit, no_line, early, late}
use Rattle.demands.specs.Headline.{Keeps}
use Rattle.session.specs.Terms.{kept_of}

-- of a choice, by both its sides
pub by : {A : Type 0} (Q : A → Type 0) (b : Bool) (x y : A) → (b ≡ true → Q x) → (b ≡ false → Q y) → Q (cond b x y)
by Q true x y f g = f refl
by Q false x y f g = g refl

-- what every request put out keeps of the session before it
pub record Kept (s t : Session) : Type 0 where
  pub settings : t.settings ≡ s.settings
  pub file : t.file ≡ s.file
  pub sent : t.sent ≡ s.sent
  pub burned : s.burned ≡ true → t.burned ≡ true

kept : (s : Session) → Kept s s
kept s = record { settings = refl; file = refl; sent = refl; burned = λ e. e }

kept_moved : (s : Session) (p : Position) → Kept s (with_position s p)
unfolding with_position
kept_moved s p = record { settings = refl; file = refl; sent = refl; burned = λ e. e }

kept_burned : (s : Session) (p : Position) (b : Bool) → (s.burned ≡ true → b ≡ true) → Kept s (with_burned (with_position s p) b)
unfolding with_position with_burned
kept_burned s p b f = record { settings = refl; file = refl; sent = refl; burned = f }

-- the configuration that is restored: the first, or the one behind the one in hand
pub data Restores (s : Session) : Awaited → ConfigNumber → Type 0 where
  from_first : Restores s BanksRead (config_number 0)
  next_one : s.position.config.0 + 1 < s.file.configs → Restores s CrcRead (config_number (s.position.config.0 + 1))

-- the steps: behind the request that is answered with this word, the session that puts the next one out, what it awaits then, and the request
pub data Step (text : List ℕ) (s : Session) (word : ℕ) : Awaited → Session → Awaited → Request → Type 0 where
  capture_read_lem : Step text s word CaptureAt s CaptureRead (read_data (address_of s))
  capture_write_lem : Step text s word CaptureRead s CaptureWrite (write_of (address_of s) 0xC5 (word_bytes (cleared word)))
  capture_apply_lem : Step text s word CaptureWrite s CaptureApply (write_of (address_of s) 0xE7 (0x02 ∷ 0x00 ∷ []))
  counter_at_lem : Step text s word CaptureApply s CounterAt (point_to (address_of s) 0x35 0x00)
  counter_read_lem : Step text s word CounterAt s CounterRead (read_data (address_of s))
  identity_read_lem : Step text s word CounterRead (having_read s (with_counter s.position.read word)) IdentityRead (read_block (address_of s) 0xAD)
  flag_at_lem : Step text s word IdentityRead (having_read s (with_identity s.position.read word)) FlagAt (point_to (address_of s) 0x87 0xBD)
  flag_read_lem : Step text s word FlagAt s FlagRead (read_data (address_of s))
  revision_read_lem : Step text s word FlagRead (having_read s (with_flag s.position.read word)) RevisionRead (read_block (address_of s) 0xAE)
  line_out_lem : (g : Awaited) (n : LineNumber) → Due s word g n → (l : Line) (next : ℕ) → next_line n s.position.place text ≡ Ok (Some (l, next))
      → (is_burn l ≡ true) ↔ (n.0 ≡ s.file.lines) → (b : Bool) → (is_burn l ≡ true → b ≡ true) → (is_burn l ≡ false → b ≡ s.burned)
      → Step text s word g (with_burned (with_position s (at_line s.position n next)) b) LineOut (line_request (address_of s) l)
  status_at_lem : s.file.lines ≤ s.position.line.0 → Step text s word LineOut s StatusAt (point_to (address_of s) 0x7E 0x00)
  status_read_lem : Step text s word StatusAt s StatusRead (read_data (address_of s))
  again : s.position.polls + 1 < s.settings.limit
      → Step text s word StatusRead (with_position s (at_polls s.position (s.position.polls + 1))) StatusRead (read_data (address_of s))
  banks_at_lem : Step text s word StatusRead s BanksAt (point_to (address_of s) 0x7F 0x00)
  banks_read_lem : Step text s word BanksAt s BanksRead (read_data (address_of s))
  restore : (g : Awaited) (N : ConfigNumber) → Restores s g N
      → Step text s word g (with_position s (at_config s.position N)) Restore (write_of (address_of s) s.settings.restore (id_in s.file N.0 ∷ []))
  crc_at_lem : Step text s word Restore s CrcAt (point_to (address_of s) 0x94 0x00)
  crc_read_lem : Step text s word CrcAt s CrcRead (read_data (address_of s))

module _ (text : List ℕ) (s : Session) (held : Keeps s.settings.rule (kept_of s.settings.rule)) (word : ℕ) (P : Awaited → Handed → Type 0)
    (puts : (g : Awaited) (t : Session) → Kept s t → (next : Awaited) (q : Request) → Step text s word g t next q → P g (put_of t next q))
    (ends : (g : Awaited) (v : Verdict) → P g (end_of s v))
    (bads : (g : Awaited) (n : LineNumber) → Due s word g n → Unfit text s n → P g (bad_of s)) where
  took_every : (g : Awaited) (n : LineNumber) → Due s word g n → (l : Line) (next : ℕ) → next_line n s.position.place text ≡ Ok (Some (l, next))
      → P g (took_of s l next n)
  unfolding took_of due_put_of
  took_every g n d l next e =
      by (P g) (is_burn l) _ _
      (λ f. by (P g) (eqb n.0 s.file.lines) _ _ (λ h. puts g _ (kept_burned s _ true (λ x. refl)) _ _ (line_out_lem g n d l next e ((λ x. eqb-true _ _ h), λ x. f) true (λ x. refl) (λ x. absurd (true≢false (sym f ∙ x))))) (λ h. bads g n d (early l next e f (eqb-false _ _ h))))
      (λ f. by (P g) (eqb n.0 s.file.lines) _ _ (λ h. bads g n d (late l next e f (eqb-true _ _ h))) (λ h. puts g _ (kept_burned s _ s.burned (λ x. x)) _ _
      (line_out_lem g n d l next e ((λ x. absurd (true≢false (sym x ∙ f))), λ x. absurd (eqb-false _ _ h x)) s.burned (λ x. absurd (true≢false (sym x ∙ f))) (λ x. refl))))

  due_every : (g : Awaited) (n : LineNumber) → Due s word g n → (t : NextLine) → next_line n s.position.place text ≡ t → P g (due_of s n t)
  unfolding due_of
  due_every g n d (Ok None) e = bads g n d (no_line (λ l next f. let z : ◌≡◌ {A = ℕ} 0 1 = cc in omega arith))
  due_every g n d (Ok (Some (l, next))) e = took_every g n d l next e
  due_every g n d (Err fault) e = bads g n d (no_line (λ l next f. let z : ◌≡◌ {A = ℕ} 0 1 = cc in omega arith))

  line_every : (g : Awaited) (n : LineNumber) → Due s word g n → P g (put_line_of text s n)
  unfolding put_line_of
  line_every g n d = due_every g n d _ refl

  out_every : P LineOut (line_done_of text s)
  unfolding line_done_of
  out_every =
      by (P LineOut) (ltb s.position.line.0 s.file.lines) (put_line_of text s (line_number (s.position.line.0 + 1)))
      (put_of s StatusAt (point_to s.settings.address 0x7E 0x00)) (λ e. line_every LineOut _ (later (ltb-true _ _ e))) (λ e. puts LineOut s (kept s) _ _ (status_at_lem (ltb-false _ _ e)))

  fit_every : (f : Result (Unit {0}) Reason) → fit_held s word ≡ f → P RevisionRead (fit_done_of text s f)
  unfolding fit_done_of fit_held
  fit_every (Ok tt) e =
      line_every RevisionRead _
      (first _ held ((judged_exactly (target_of s.file) (kept_of s.settings.rule) (with_revision s.position.read word)).matches e))
  fit_every (Err r) e = ends RevisionRead (Halted r)

  polled_every : (p : Polled) → P StatusRead (polled_done_of s p)
  unfolding polled_done_of poll_again_of
  polled_every Busy =
      by (P StatusRead) (ltb (s.position.polls + 1) s.settings.limit) _ _ (λ e. puts StatusRead _ (kept_moved s _) _ _ (again (ltb-true _ _ e))) (λ e. ends StatusRead (Halted Program))
  polled_every Passed = puts StatusRead s (kept s) _ _ banks_at_lem
  polled_every Failed = ends StatusRead (Halted Program)

  restore_every : (g : Awaited) (N : ConfigNumber) → Restores s g N → P g (restore_of s N)
  unfolding restore_of
  restore_every g N r = puts g _ (kept_moved s _) _ _ (restore g N r)

  banks_every : P BanksRead (banks_done_of s word)
  unfolding banks_done_of
  banks_every =
      by (P BanksRead) (banks_right s.file.configs word) (restore_of s (config_number 0)) (end_of s (Halted Banks)) (λ e. restore_every BanksRead _ from_first)
      (λ e. ends BanksRead (Halted Banks))

  crc_every : P CrcRead (crc_done_of s word)
  unfolding crc_done_of restore_next_of
  crc_every =
      by (P CrcRead) (eqb word (crc_in s.file s.position.config.0)) (restore_next_of s) (end_of s (Mismatch s.position.config))
      (λ e. by (P CrcRead) (ltb (s.position.config.0 + 1) s.file.configs) (restore_of s (config_number (s.position.config.0 + 1))) (end_of s Done)
      (λ f. restore_every CrcRead _ (next_one (ltb-true _ _ f))) (λ f. ends CrcRead Done))
      (λ e. ends CrcRead (Mismatch s.position.config))

  pub step_every : (g : Awaited) → P g (follow_of text s g word)
  unfolding follow_of counter_done_of identity_done_of flag_done_of revision_done_of status_done_of
  step_every CaptureAt = puts CaptureAt s (kept s) _ _ capture_read_lem
  step_every CaptureRead = puts CaptureRead s (kept s) _ _ capture_write_lem
  step_every CaptureWrite = puts CaptureWrite s (kept s) _ _ capture_apply_lem
  step_every CaptureApply = puts CaptureApply s (kept s) _ _ counter_at_lem
  step_every CounterAt = puts CounterAt s (kept s) _ _ counter_read_lem
  step_every CounterRead = puts CounterRead _ (kept_moved s _) _ _ identity_read_lem
  step_every IdentityRead = puts IdentityRead _ (kept_moved s _) _ _ flag_at_lem
  step_every FlagAt = puts FlagAt s (kept s) _ _ flag_read_lem
  step_every FlagRead = puts FlagRead _ (kept_moved s _) _ _ revision_read_lem
  step_every RevisionRead = fit_every _ refl
  step_every LineOut = out_every
  step_every StatusAt = puts StatusAt s (kept s) _ _ status_read_lem
  step_every StatusRead = polled_every (polled_of word)
  step_every BanksAt = puts BanksAt s (kept s) _ _ banks_read_lem
  step_every BanksRead = banks_every
  step_every Restore = puts Restore s (kept s) _ _ crc_at_lem
  step_every CrcAt = puts CrcAt s (kept s) _ _ crc_read_lem
  step_every CrcRead = crc_every
