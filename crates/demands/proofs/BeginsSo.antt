-- What a begin hands back, refused or accepted, with a summary or by the one operation. Assumes nothing.
use Rattle.summary.specs.Answers.{FileAnswer}
use Rattle.std.specs.Prelude.{Ok, Err}
use Prim.Native.Nat.{ℕ, ◌+◌}
use mathlib.Core.Path.{◌≡◌, refl, sym, ap}
use mathlib.Core.Bool.{true, false}
use mathlib.Core.List.{List}
use Rattle.promise.proofs.Basics.{split}
use Rattle.summary.specs.declared.Summary.{Summary}
use Rattle.image.specs.Check.{check_of}
use Rattle.bus.specs.declared.Request.{Request}
use Rattle.bus.specs.Bus.{eight, no_request}
use Rattle.guide.specs.Requests.{point_to}
use Rattle.guide.specs.declared.Verdict.{Verdict}
use Rattle.guide.specs.declared.Verdict.TheVariants.{Setting, File, State}
use Rattle.session.specs.declared.Settings.{Settings}
use Rattle.session.specs.declared.Session.{Session}
use Rattle.session.specs.declared.Handed.{Handed}
use Rattle.session.specs.declared.Answer.TheVariants.{Next}
use Rattle.session.specs.declared.Awaited.{Awaited}
use Rattle.session.specs.declared.Awaited.TheVariants.{CaptureAt, CounterAt}
use Rattle.session.specs.Sound.{allowed_of, file_sound}
use Rattle.session.specs.Moves.{with_stage, with_sent, put_of, over_of}
use Rattle.session.specs.Begin.{fresh_of, first_of, start_of, refused_of, begin_with, answered_of, begin_of}
use Rattle.demands.specs.AtBegin.{Begun}
use Rattle.demands.proofs.Cases.{next_bad, next_over, over_bad}
use Rattle.session.proofs.Laws.{begin_sound, begin_unsound, begin_out, begin_answered, begin_not}
use Rattle.demands.proofs.EveryStep.{by}

module _ (s : Session) where
  put_begun : (g : Awaited) (q : Request) → s.sent ≡ 0 → s.burned ≡ false → Begun (put_of s g q)
  unfolding put_of with_sent with_stage
  put_begun g q e b =
      record { refused = λ v f. next_over f; accepted = λ f. (ap (λ (n : ℕ). n + 1) e, refl, b); never = λ f. next_bad f }

  -- of either first request
  of_first : (Q : Handed → Type 0) → ((g : Awaited) (q : Request) → Q (put_of s g q)) → Q (first_of s)
  unfolding first_of
  of_first Q f =
      by Q s.settings.wanted (put_of s CaptureAt (point_to s.settings.address 0xA2 0x00)) (put_of s CounterAt (point_to s.settings.address 0x35 0x00)) (λ e. f CaptureAt (point_to s.settings.address 0xA2 0x00))
      (λ e. f CounterAt (point_to s.settings.address 0x35 0x00))

module _ (S : Settings) where
  -- an accepted file's begin awaits a reply
  pub started : (f : Summary) → (start_of S f).answer ≡ Next
  unfolding start_of put_of
  started f = of_first _ (λ h. h.answer ≡ Next) (λ g q. refl)

  start_begun : (f : Summary) → Begun (start_of S f)
  unfolding start_of fresh_of
  start_begun f = of_first _ Begun (λ g q. put_begun _ g q refl refl)

  refused_begun : (v : Verdict) → Begun (refused_of S v)
  unfolding refused_of over_of fresh_of no_request eight
  refused_begun v = record { refused = λ w e. (cc, refl, refl, refl); accepted = λ e. next_over (sym e); never = λ e. over_bad e }

  pub begins_with : (f : Summary) → Begun (begin_with S f)
  begins_with f =
      split (allowed_of S)
      (λ a. split (file_sound f) (λ e. rw (← begin_sound S f a e) (start_begun f)) (λ e. rw (← begin_unsound S f a e) (refused_begun State)))
      (λ a. rw (← begin_out S f a) (refused_begun Setting))

  answered_begun : (f : Summary) (a : FileAnswer) → Begun (answered_of S f a)
  unfolding answered_of
  answered_begun f (Ok tt) = begins_with f
  answered_begun f (Err r) = refused_begun (File r)

module _ (S : Settings) (text : List ℕ) where
  -- by the file's answer, where the settings are allowed
  pub begun : allowed_of S ≡ true → answered_of S (check_of text).summary (check_of text).answer ≡ begin_of S text
  begun e = begin_answered S text (check_of text) (check_of text).answer refl e refl

  pub begins_so : Begun (begin_of S text)
  begins_so =
      split (allowed_of S) (λ a. rw (← begun a) (answered_begun S (check_of text).summary (check_of text).answer))
      (λ a. rw (← begin_not S text a) (refused_begun S Setting))
