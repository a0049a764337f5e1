-- Whatever the state and the text that is lent: nothing is put out but a request of the guide's own or the line that is due. Assumes nothing.
use Prim.Native.Nat.{ℕ, ◌≤◌, ◌<◌}
use mathlib.Core.Path.{◌≡◌, refl, sym}
use mathlib.Core.Logic.{◌⊎◌, inl, inr}
use mathlib.Core.Bool.{Bool, true, false, cond}
use native.Mathlib.Omega.{arith}
use borrow.Author.Tests.{leb-true, ltb-true}
use Rattle.std.specs.Prelude.{Result, Ok, Err}
use Rattle.bus.specs.declared.Request.{Request}
use Rattle.bus.specs.declared.Misreply.{Misreply}
use Rattle.bus.specs.Bus.{eight, no_request}
use Rattle.bus.specs.ReplyForm.{form_of}
use Rattle.guide.specs.declared.Verdict.{Verdict}
use Rattle.counts.specs.declared.ConfigNumber.{ConfigNumber}
use Rattle.session.specs.declared.Session.{Session}
use Rattle.session.specs.declared.Handed.{Handed}
use Rattle.session.specs.declared.Stage.{Stage}
use Rattle.session.specs.declared.Stage.TheVariants.{Open, Ended}
use Rattle.session.specs.declared.Awaited.{Awaited}
use Rattle.session.specs.declared.Answer.TheVariants.{Next}
use Rattle.session.specs.Moves.{put_of, end_of, bad_of, over_of}
use Rattle.session.specs.Sound.{held_tests, held_sound, state_tests, sound_of}
use Rattle.session.specs.Reply.{replied_of, stage_of, reply_of}
use Rattle.session.proofs.Tests.{all_at}
use Rattle.demands.specs.Exactly.{zeros}
use Rattle.demands.specs.Lent.{Call, Own, word, back, apply, counter, identity, flag, revision, status, banks, restore, crc, DueLine, PutsOut}
use Rattle.demands.proofs.Cases.{next_bad, next_over}
use Rattle.demands.proofs.EveryStep as step
use Rattle.demands.proofs.EveryStep.{Restores, from_first, next_one, Step, step_every}
use Rattle.demands.proofs.SettingsSay.{held_rule}

-- where a state that 15 lets pass is
pub record Held (s : Session) : Type 0 where
  pub low : 5 ≤ s.position.line.0
  pub line : s.position.line.0 ≤ s.file.lines
  pub config : s.position.config.0 < s.file.configs
  pub polls : s.position.polls < s.settings.limit

pub held : (s : Session) → sound_of s ≡ true → Held s
unfolding sound_of state_tests held_sound held_tests
held s e =
    let h : held_sound s ≡ true = all_at (state_tests s) 2 e in
    record {
      low = leb-true _ _ (all_at (held_tests s) 0 h);
      line = leb-true _ _ (all_at (held_tests s) 1 h);
      config = ltb-true _ _ (all_at (held_tests s) 2 h);
      polls = ltb-true _ _ (all_at (held_tests s) 3 h);
    }

pub restores_some : (s : Session) → Held s → (g : Awaited) (N : ConfigNumber) → Restores s g N → N.0 < s.file.configs
restores_some s h _ _ from_first = omega (arith, h.config)
restores_some s h _ _ (next_one f) = f

module _ (s : Session) (c : Call) where
  abbrev pub Out : Request → Type 0
  Out q = Own s.settings s.file q ⊎ DueLine s c q

  pub step_out : Held s → (w : ℕ) → form_of s.hand c.reply.kind c.reply.bytes ≡ Ok w → (g : Awaited) → s.stage ≡ Open g
      → (t : Session) (next : Awaited) (q : Request) → Step c.text s w g t next q → Out q
  step_out h w f g o _ _ _ step.capture_read_lem = inl word
  step_out h w f g o _ _ _ step.capture_write_lem = inl (back w)
  step_out h w f g o _ _ _ step.capture_apply_lem = inl apply
  step_out h w f g o _ _ _ step.counter_at_lem = inl counter
  step_out h w f g o _ _ _ step.counter_read_lem = inl word
  step_out h w f g o _ _ _ step.identity_read_lem = inl identity
  step_out h w f g o _ _ _ step.flag_at_lem = inl flag
  step_out h w f g o _ _ _ step.flag_read_lem = inl word
  step_out h w f g o _ _ _ step.revision_read_lem = inl revision
  step_out h w f g o _ _ _ (step.line_out_lem _ n d l next e b _ _ _) =
      inr (record { awaited = g; stage = o; word = w; form = f; number = n; due = d; line = l; next = next; reads = e; burn = b; goes = refl })
  step_out h w f g o _ _ _ (step.status_at_lem _) = inl status
  step_out h w f g o _ _ _ step.status_read_lem = inl word
  step_out h w f g o _ _ _ (step.again _) = inl word
  step_out h w f g o _ _ _ step.banks_at_lem = inl banks
  step_out h w f g o _ _ _ step.banks_read_lem = inl word
  step_out h w f g o _ _ _ (step.restore _ N r) = inl (restore N.0 (restores_some s h _ N r))
  step_out h w f g o _ _ _ step.crc_at_lem = inl crc
  step_out h w f g o _ _ _ step.crc_read_lem = inl word

  -- what is shown of what a call hands back
  record Shown (h : Handed) : Type 0 where
    puts : h.answer ≡ Next → Out h.request
    silent : (h.answer ≡ Next → ⊥) → h.request ≡ zeros

  put_shown : (t : Session) (next : Awaited) (q : Request) → Out q → Shown (put_of t next q)
  unfolding put_of
  put_shown t next q x = record { puts = λ _. x; silent = λ f. absurd (f refl) }

  end_shown : (v : Verdict) → Shown (end_of s v)
  unfolding end_of no_request eight
  end_shown v = record { puts = λ e. next_over (sym e); silent = λ _. refl }

  over_shown : (v : Verdict) → Shown (over_of s v)
  unfolding over_of no_request eight
  over_shown v = record { puts = λ e. next_over (sym e); silent = λ _. refl }

  bad_shown : Shown (bad_of s)
  unfolding bad_of no_request eight
  bad_shown = record { puts = λ e. next_bad (sym e); silent = λ _. refl }

  replied_shown : sound_of s ≡ true → (g : Awaited) → s.stage ≡ Open g → (f : Result ℕ Misreply) → form_of s.hand c.reply.kind c.reply.bytes ≡ f
      → Shown (replied_of c.text s g f)
  unfolding replied_of
  replied_shown ok g o (Err m) e = end_shown _
  replied_shown ok g o (Ok w) e =
      step_every c.text s (held_rule s ok) w (λ k h. s.stage ≡ Open k → Shown h)
      (λ k t kept next q x p. put_shown t next q (step_out (held s ok) w e k p t next q x)) (λ k v p. end_shown v) (λ k n d u p. bad_shown) g o

  open_shown : (g : Awaited) → s.stage ≡ Open g → (b : Bool) → sound_of s ≡ b
      → Shown (cond b (replied_of c.text s g (form_of s.hand c.reply.kind c.reply.bytes)) (bad_of s))
  open_shown g o true e = replied_shown e g o _ refl
  open_shown g o false e = bad_shown

  stage_shown : (g : Stage) → s.stage ≡ g → Shown (stage_of c.text s c.reply.kind c.reply.bytes g)
  unfolding stage_of
  stage_shown (Open g) o = open_shown g o (sound_of s) refl
  stage_shown (Ended v) o = over_shown v

  pub puts_out : PutsOut s c
  unfolding reply_of
  puts_out = let x = stage_shown s.stage refl in record { puts = x.puts; silent = x.silent }
