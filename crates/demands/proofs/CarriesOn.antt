-- What a session is handed on as: count, burn mark, settings and file, of every reply. Assumes nothing.
use Prim.Native.Nat.{ℕ, ◌+◌}
use mathlib.Core.Path.{◌≡◌, refl, sym, ap}
use mathlib.Core.Bool.{Bool, true, false, cond}
use mathlib.Core.List.{List}
use Rattle.std.specs.Prelude.{Result, Ok, Err}
use Rattle.bus.specs.declared.Request.{Request}
use Rattle.bus.specs.declared.Misreply.{Misreply}
use Rattle.bus.specs.ReplyForm.{form_of}
use Rattle.guide.specs.declared.Verdict.{Verdict}
use Rattle.session.specs.declared.Session.{Session}
use Rattle.session.specs.declared.Stage.{Stage}
use Rattle.session.specs.declared.Stage.TheVariants.{Open, Ended}
use Rattle.session.specs.declared.Awaited.{Awaited}
use Rattle.session.specs.Moves.{with_stage, with_sent, put_of, end_of, bad_of, over_of}
use Rattle.session.specs.Sound.{sound_of}
use Rattle.session.specs.Reply.{replied_of, stage_of, reply_of}
use Rattle.demands.specs.Exactly.{Carried, CarriesOn}
use Rattle.demands.proofs.Cases.{next_bad, next_over}
use Rattle.demands.proofs.EveryStep.{Kept, Step, step_every}
use Rattle.demands.proofs.SettingsSay.{held_rule}

module _ (s : Session) where
  put_carried : {text : List ℕ} {word : ℕ} (g : Awaited) (t : Session) → Kept s t → (next : Awaited) (q : Request) → Step text s word g t next q
      → Carried s (put_of t next q)
  unfolding put_of with_sent with_stage
  put_carried g t k next q x =
      record {
        counts = λ e. (ap (λ (n : ℕ). n + 1) k.sent, refl);
        rests = λ f. absurd (f refl);
        burned = k.burned;
        settings = k.settings;
        file = k.file;
      }

  end_carried : (g : Awaited) (v : Verdict) → Carried s (end_of s v)
  unfolding end_of with_stage
  end_carried g v = record { counts = λ e. next_over (sym e); rests = λ f. (refl, refl); burned = λ e. e; settings = refl; file = refl }

  over_carried : (v : Verdict) → Carried s (over_of s v)
  unfolding over_of
  over_carried v = record { counts = λ e. next_over (sym e); rests = λ f. (refl, refl); burned = λ e. e; settings = refl; file = refl }

  bad_carried : Carried s (bad_of s)
  unfolding bad_of
  bad_carried = record { counts = λ e. next_bad (sym e); rests = λ f. (refl, refl); burned = λ e. e; settings = refl; file = refl }

module _ (text : List ℕ) (s : Session) (kind : ℕ) (bs : List ℕ) where
  replied_carried : sound_of s ≡ true → (g : Awaited) (f : Result ℕ Misreply) → Carried s (replied_of text s g f)
  unfolding replied_of
  replied_carried ok g (Err m) = end_carried s g _
  replied_carried ok g (Ok word) =
      step_every text s (held_rule s ok) word (λ h. Carried s) (put_carried s) (end_carried s) (λ h n d u. bad_carried s) g

  open_carried : (g : Awaited) (b : Bool) → sound_of s ≡ b → Carried s (cond b (replied_of text s g (form_of s.hand kind bs)) (bad_of s))
  open_carried g true e = replied_carried e g _
  open_carried g false e = bad_carried s

  stage_carried : (g : Stage) → Carried s (stage_of text s kind bs g)
  unfolding stage_of
  stage_carried (Open g) = open_carried g (sound_of s) refl
  stage_carried (Ended v) = over_carried s v

  pub carries_on : CarriesOn text s kind bs
  unfolding CarriesOn reply_of
  carries_on = stage_carried s.stage
