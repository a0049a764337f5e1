-- Whatever the settings and the text, from what a beginning for it handed back: nothing is put out, whatever comes, or they are allowed and
-- accepted. Assumes nothing.
use Rattle.std.specs.Prelude.{Ok, Err}
use mathlib.Core.Path.{◌≡◌, refl, sym, ap}
use mathlib.Core.Bool.{true, false}
use mathlib.Core.List.{List, []}
use Prim.Native.Nat.{ℕ}
use Rattle.promise.proofs.Basics.{split}
use Rattle.summary.specs.Answers.{FileAnswer, answer_told, no_summary}
use Rattle.image.specs.Check.{check_of}
use Rattle.summary.specs.declared.Refusal.{Refusal}
use Rattle.guide.specs.declared.Verdict.{Verdict}
use Rattle.guide.specs.declared.Verdict.TheVariants.{Setting, File, State}
use Rattle.guide.specs.Plan.{Reply}
use Rattle.session.specs.declared.Settings.{Settings}
use Rattle.session.specs.Terms.{kept_of}
use Rattle.session.specs.declared.Handed.{Handed}
use Rattle.session.specs.Sound.{all, allowed_of, file_tests, file_sound}
use Rattle.session.specs.Begin.{refused_of, answered_of}
use Rattle.session.proofs.Laws.{begin_unsound, begin_out, begin_answered, begin_not}
use Rattle.demands.specs.Runs.{BegunFor, with_summary, at_once, sent}
use Rattle.demands.specs.Guided.{Premises}
use Rattle.demands.proofs.SettingsSay.{allowed_is, rule_is, refused_sends}
use Rattle.demands.proofs.PremisesGive.{refused_summary}

module _ (S : Settings) (text : List ℕ) where
  -- a beginning that is refused, by the settings
  out_start : allowed_of S ≡ false → {h : Handed} → BegunFor S text h → h ≡ refused_of S Setting
  out_start e (with_summary f g) = sym (begin_out S f e)
  out_start e at_once = sym (begin_not S text e)

  -- and by the file: its summary is of zeros
  unsound : (r : Refusal) → (check_of text).answer ≡ Err r → file_sound (check_of text).summary ≡ false
  unfolding file_sound file_tests all no_summary
  unsound r h = rw (refused_summary text r h)

  file_start : allowed_of S ≡ true → (r : Refusal) → (check_of text).answer ≡ Err r → {h : Handed} → BegunFor S text h → (v : Verdict) × (h ≡ refused_of S v)
  unfolding answered_of
  file_start e r h (with_summary f g) = (State, sym (begin_unsound S f e (rw g (unsound r h))))
  file_start e r h at_once = (File r, sym (begin_answered S text (check_of text) (Err r) refl e h))

  pub any_start : (rs : List Reply) {h : Handed} → BegunFor S text h → {Q : Type 0} → (sent text h rs ≡ [] → Q)
      → (Premises S (kept_of S.rule) text (check_of text).summary → Q) → Q
  any_start rs {h} b {Q} silent goes =
      split (allowed_of S) (λ e. by_file e (check_of text).answer refl) (λ e. silent (rw (out_start e b) (refused_sends S text Setting rs)))
    where
      by_file : allowed_of S ≡ true → (a : FileAnswer) → (check_of text).answer ≡ a → Q
      by_file e (Ok tt) h =
          goes
          (record { accepted = ap (λ a. (answer_told a).number) h; summary = refl; rule = rule_is S e; allowed = allowed_is S e (kept_of S.rule) })
      by_file e (Err r) h = let x = file_start e r h b in silent (rw x.1 (refused_sends S text x.0 rs))
