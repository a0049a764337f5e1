-- 15 exactly, and what a verdict leaves: of every reply, by the stage that is held, the state and the form of the reply. Assumes
-- nothing.
use Prim.Native.Nat.{ℕ}
use mathlib.Core.Path.{◌≡◌, refl, sym, ap, ◌∙◌}
use mathlib.Core.Bool.{Bool, true, false, cond}
use mathlib.Core.List.{List}
use Rattle.std.specs.Prelude.{Result, Ok, Err}
use Rattle.counts.specs.declared.LineNumber.{LineNumber}
use Rattle.bus.specs.Bus.{eight, no_request}
use Rattle.bus.specs.ReplyForm.{form_of}
use Rattle.bus.specs.declared.Request.{Request}
use Rattle.bus.specs.declared.Misreply.{Misreply}
use Rattle.guide.specs.declared.Verdict.{Verdict}
use Rattle.session.specs.declared.Session.{Session}
use Rattle.session.specs.declared.Handed.{Handed}
use Rattle.session.specs.declared.Answer.TheVariants.{Over, BadState}
use Rattle.session.specs.declared.Stage.{Stage}
use Rattle.session.specs.declared.Stage.TheVariants.{Open, Ended}
use Rattle.session.specs.declared.Awaited.{Awaited}
use Rattle.session.specs.Moves.{with_stage, put_of, end_of, bad_of, over_of}
use Rattle.session.specs.Sound.{sound_of}
use Rattle.session.specs.Reports.{report_of}
use Rattle.session.specs.Reply.{replied_of, reply_of}
use Rattle.demands.specs.Exactly.{zeros, Due, Unfit, Fifteen, before, due, FifteenExactly, VerdictStands}
use Rattle.demands.proofs.Cases.{next_bad, next_over, over_bad}
use Rattle.session.proofs.Laws.{when_ended, when_open}
use Rattle.demands.proofs.Spoiled.{spoiled_refused, refused_spoiled}
use Rattle.demands.proofs.EveryStep.{Kept, Step, step_every}
use Rattle.demands.proofs.Refusing.{due_bad}
use Rattle.demands.proofs.SettingsSay.{held_rule}

module _ (text : List ℕ) (s : Session) (kind : ℕ) (bs : List ℕ) where
  -- what is shown of what a call hands back
  record Shown (g : Awaited) (h : Handed) : Type 0 where
    only : h.answer ≡ BadState → Fifteen text s kind bs g
    leaves : h.answer ≡ BadState → (h.session ≡ s) × (h.request ≡ zeros)
    ends : (v : Verdict) → h.answer ≡ Over v → (h.session.stage ≡ Ended v) × (h.request ≡ zeros)

  put_shown : {word : ℕ} (g : Awaited) (t : Session) → Kept s t → (next : Awaited) (q : Request) → Step text s word g t next q → Shown g (put_of t next q)
  unfolding put_of
  put_shown g t k next q x = record { only = λ e. next_bad e; leaves = λ e. next_bad e; ends = λ v e. next_over e }

  end_shown : (g : Awaited) (v : Verdict) → Shown g (end_of s v)
  unfolding end_of with_stage no_request eight
  end_shown g v = record { only = λ e. over_bad e; leaves = λ e. over_bad e; ends = λ w e. (cc, refl) }

  bad_shown : (g : Awaited) → Fifteen text s kind bs g → Shown g (bad_of s)
  unfolding bad_of no_request eight
  bad_shown g f = record { only = λ e. f; leaves = λ e. (refl, refl); ends = λ v e. over_bad (sym e) }

  replied_shown : sound_of s ≡ true → (g : Awaited) (f : Result ℕ Misreply) → form_of s.hand kind bs ≡ f → Shown g (replied_of text s g f)
  unfolding replied_of
  replied_shown ok g (Err m) e = end_shown g _
  replied_shown ok g (Ok word) e =
      step_every text s (held_rule s ok) word Shown put_shown end_shown (λ h n d u. bad_shown h (due word n e d u)) g

  open_shown : (g : Awaited) (b : Bool) → sound_of s ≡ b → Shown g (cond b (replied_of text s g (form_of s.hand kind bs)) (bad_of s))
  open_shown g true e = replied_shown e g _ refl
  open_shown g false e = bad_shown g (before (refused_spoiled s e))

  stage_shown : (g : Awaited) → s.stage ≡ Open g → Shown g (reply_of text s kind bs)
  stage_shown g e = rw (← when_open text s kind bs g (sound_of s) e refl) (open_shown g (sound_of s) refl)

  -- the same verdict, the same state and a request of zeros
  still : (v : Verdict) → s.stage ≡ Ended v
      → ((reply_of text s kind bs).answer ≡ Over v) × ((reply_of text s kind bs).session ≡ s) × ((reply_of text s kind bs).request ≡ zeros)
  unfolding over_of no_request eight
  still v e = rw (← when_ended text s kind bs v e) (refl, refl, refl)

  ended_by : (v w : Verdict) → s.stage ≡ Ended w → (reply_of text s kind bs).answer ≡ Over v → (reply_of text s kind bs).session.stage ≡ Ended v
  ended_by v w o e =
      let same : Over w ≡ Over v = sym (still w o).0 ∙ e in
      let held : (reply_of text s kind bs).session ≡ s = (still w o).1 in
      ap (λ (t : Session). t.stage) held ∙ cc

  by_stage : {A : Type 0} (g : Stage) → s.stage ≡ g → ((h : Awaited) → s.stage ≡ Open h → A) → ((v : Verdict) → s.stage ≡ Ended v → A) → A
  by_stage (Open h) e f k = f h e
  by_stage (Ended v) e f k = k v e

  due_refused : (g : Awaited) (word : ℕ) (n : LineNumber) → form_of s.hand kind bs ≡ Ok word → Due s word g n → Unfit text s n
      → (b : Bool) → cond b (replied_of text s g (form_of s.hand kind bs)) (bad_of s) ≡ bad_of s
  unfolding replied_of
  due_refused g word n f d u true = rw f (due_bad text s word g n d u)
  due_refused g word n f d u false = refl

  refused : (g : Awaited) → s.stage ≡ Open g → Fifteen text s kind bs g → reply_of text s kind bs ≡ bad_of s
  refused g e (before spoilt) = sym (when_open text s kind bs g false e (spoiled_refused s spoilt))
  refused g e (due word n f d u) = sym (when_open text s kind bs g (sound_of s) e refl) ∙ due_refused g word n f d u (sound_of s)

  pub fifteen_exactly : FifteenExactly text s kind bs
  unfolding bad_of report_of
  fifteen_exactly =
      record {
        only = λ e. by_stage _ refl (λ g o. (g, o, (stage_shown g o).only e)) (λ v o. over_bad (sym (still v o).0 ∙ e));
        when = λ g o f. ap (λ (h : Handed). h.answer) (refused g o f);
        leaves = λ e. by_stage _ refl (λ g o. (stage_shown g o).leaves e) (λ v o. over_bad (sym (still v o).0 ∙ e));
        tells = λ e. ap report_of e;
      }

  pub verdict_stands : VerdictStands text s kind bs
  verdict_stands =
      record {
        ends = λ v e. by_stage _ refl (λ g o. (stage_shown g o).ends v e) (λ w o. (ended_by v w o e, (still w o).2));
        stays = still;
      }
