-- 14 exactly where a setting is out of its range; otherwise a refused file is reported by its own number, line and place, exactly where
-- they are its. Assumes nothing.
use Rattle.std.specs.Prelude.{Ok, Err}
use Prim.Native.Nat.{ℕ, ◌≤◌}
use mathlib.Core.Path.{◌≡◌, refl, sym, ap, ◌∙◌}
use mathlib.Core.List.{List}
use native.Mathlib.Omega.{arith}
use Rattle.std.specs.Prelude.{Some, None}
use Rattle.promise.proofs.Basics.{split}
use Rattle.summary.specs.declared.Told.{Told}
use Rattle.summary.specs.declared.Summary.{Summary}
use Rattle.image.specs.Check.{check_of}
use Rattle.summary.specs.Answers.{FileAnswer, answer_told, refusal_told, told}
use Rattle.summary.specs.declared.Refusal.TheVariants as refusal
use Rattle.counts.specs.Counts.{line_number, line_place, config_number}
use Rattle.image.specs.FileTable.{Given}
use Rattle.image.proofs.GivenExactly.{given_exactly}
use Rattle.summary.proofs.Numbers.{refusal_number}
use Rattle.session.specs.declared.Settings.{Settings}
use Rattle.session.specs.Reports.{report_of}
use Rattle.guide.specs.declared.Verdict.{Verdict}
use Rattle.guide.specs.declared.Verdict.TheVariants.{File, State}
use Rattle.guide.specs.Numbers.{verdict_told}
use Rattle.session.specs.Sound.{allowed_of, file_sound}
use Rattle.session.specs.Moves.{over_of}
use Rattle.session.specs.Begin.{start_of, refused_of, begin_with, answered_of, begin_of}
use Rattle.demands.specs.Exactly.{SettingOut}
use Rattle.demands.specs.AtBegin.{FourteenExactly, FileExactly}
use Rattle.session.proofs.Laws.{begin_sound, begin_unsound, begin_out, begin_not}
use Rattle.demands.proofs.PremisesGive.{file_sound_lem}
use Rattle.demands.proofs.SettingsOut.{out_refused, refused_out}
use Rattle.demands.proofs.BeginsSo.{started, begun}

module _ (S : Settings) where
  -- a begin that is not refused awaits a reply
  pub waits : {A : Type 0} (f : Summary) (t : Told) → report_of (start_of S f).answer ≡ Some t → A
  unfolding report_of
  waits f t e =
      let w : None ≡ Some t = sym (ap report_of (started S f)) ∙ e in
      let z : ◌≡◌ {A = ℕ} 0 1 = cc in absurd (let y : ⊥ = omega arith in y)

  -- one that is tells its verdict
  pub tells : (v : Verdict) (t : Told) → report_of (refused_of S v).answer ≡ Some t → (verdict_told v).number ≡ t.number
  unfolding refused_of over_of report_of
  tells v t e = let same : verdict_told v ≡ t = cc in ap (λ (x : Told). x.number) same

  pub fourteen_with : (f : Summary) → FourteenExactly S (begin_with S f)
  unfolding refused_of over_of report_of
  fourteen_with f =
      record {
        only = λ t e n.
            split (allowed_of S)
            (λ a. split (file_sound f) (λ s. waits f t (rw (← begin_sound S f a s) at e))
            (λ s. let k = tells State t (rw (← begin_unsound S f a s) at e) in absurd (let y : ⊥ = omega (arith, k, n) in y)))
            (refused_out S);
        when = λ o. rw (← begin_out S f (out_refused S o)) refl;
      }

  answered_only : (f : Summary) (a : FileAnswer) (t : Told) → report_of (answered_of S f a).answer ≡ Some t → t.number ≡ 14 → SettingOut S
  unfolding answered_of
  answered_only f (Ok tt) t e n = (fourteen_with f).only t e n
  answered_only f (Err r) t e n = let k = tells (File r) t e in absurd (let y : ⊥ = omega (arith, k, n, (refusal_number r).few) in y)

  answered_told : (f : Summary) (a : FileAnswer) → ((answer_told a).number ≡ 0 → ⊥) → report_of (answered_of S f a).answer ≡ Some (answer_told a)
  unfolding answered_of refused_of over_of report_of
  answered_told f (Ok tt) h = absurd (h refl)
  answered_told f (Err r) h = refl

module _ (S : Settings) (text : List ℕ) where
  module _ (inside : SettingOut S → ⊥) where
    -- what a begin reports is told by the checker's answer
    pub begun_told : (a : FileAnswer) → (check_of text).answer ≡ a → ((answer_told a).number ≡ 0 → ⊥) → report_of (begin_of S text).answer ≡ Some (answer_told a)
    begun_told a e h =
        split (allowed_of S) (λ b. rw (← begun S text b, e) (answered_told S (check_of text).summary a h)) (λ b. absurd (inside (refused_out S b)))

    begun_waits : (check_of text).answer ≡ Ok tt → (t : Told) → report_of (begin_of S text).answer ≡ Some t → ⊥
    unfolding answered_of
    begun_waits e t f =
        split (allowed_of S)
        (λ b. waits S (check_of text).summary t (rw (← begun S text b, e, ← begin_sound S (check_of text).summary b (file_sound_lem text e)) at f))
        (λ b. inside (refused_out S b))

    refused_given : (a : FileAnswer) → (check_of text).answer ≡ a → (t : Told) → report_of (begin_of S text).answer ≡ Some t → answer_told a ≡ t
    refused_given (Ok tt) e t f = absurd (begun_waits e t f)
    refused_given (Err r) e t f =
        let told : Some (refusal_told r) ≡ Some t = sym (begun_told (Err r) e (λ z. let y : ⊥ = omega (arith, (refusal_number r).some) in y)) ∙ f in cc

    given_told : (number line place : ℕ) → 1 ≤ number → Given text number line place
        → answer_told (check_of text).answer ≡ told number (line_number line) (line_place place) (config_number 0)
    given_told number line place h g = let o = (given_exactly text).only number line place g in by (check_of text).answer o.0 o.1 o.2
      where
        by : (a : FileAnswer) → (answer_told a).number ≡ number → (answer_told a).line.0 ≡ line → (answer_told a).place.0 ≡ place
            → answer_told a ≡ told number (line_number line) (line_place place) (config_number 0)
        by (Ok tt) e f k = absurd (let y : ⊥ = omega arith in y)
        by (Err (refusal.Line n r)) e f k = rw (← e, ← f, ← k)
        by (Err (refusal.Whole x)) e f k = rw (← e, ← f, ← k)

    pub file_exactly : FileExactly S text inside
    file_exactly =
        record {
          only = λ t e.
              let same = refused_given (check_of text).answer refl t e in
              rw same at (given_exactly text).goes;
          when = λ number line place h g.
              let e = given_told number line place h g in
              let some : (answer_told (check_of text).answer).number ≡ 0 → ⊥ = λ z. let n : number ≡ 0 = sym (ap (λ (t : Told). t.number) e) ∙ z in omega arith in
              begun_told (check_of text).answer refl some ∙ ap Some e;
        }

  pub fourteen_exactly : FourteenExactly S (begin_of S text)
  unfolding refused_of over_of report_of
  fourteen_exactly =
      record {
        only = λ t e n.
            split (allowed_of S) (λ a. answered_only S (check_of text).summary (check_of text).answer t (rw (← begun S text a) at e) n) (refused_out S);
        when = λ o. rw (← begin_not S text (out_refused S o)) refl;
      }
