-- A beginning with a summary is 15 exactly where the settings are in their ranges and the summary is out of its bounds. Assumes nothing.
use mathlib.Core.Path.{◌≡◌, refl, sym, ◌∙◌}
use mathlib.Core.Bool.{true, true≢false}
use native.Mathlib.Omega.{arith}
use Rattle.std.specs.Prelude.{Some}
use Rattle.promise.proofs.Basics.{split}
use Rattle.summary.specs.declared.Told.{Told}
use Rattle.summary.specs.declared.Summary.{Summary}
use Rattle.guide.specs.declared.Verdict.TheVariants.{Setting}
use Rattle.session.specs.declared.Settings.{Settings}
use Rattle.session.specs.Reports.{report_of}
use Rattle.session.specs.Moves.{over_of}
use Rattle.session.specs.Sound.{allowed_of, file_sound}
use Rattle.session.specs.Begin.{refused_of, begin_with}
use Rattle.session.proofs.Laws.{begin_sound, begin_unsound, begin_out}
use Rattle.demands.specs.Exactly.{SettingOut, SummaryOut}
use Rattle.demands.specs.AtBegin.{FifteenAtBegin}
use Rattle.demands.proofs.SettingsOut.{out_refused, refused_out}
use Rattle.demands.proofs.Spoiled.{out_unsound, unsound_out}
use Rattle.demands.proofs.BeginsSo.{started}
use Rattle.demands.proofs.FourteenExactly.{waits, tells}

module _ (S : Settings) where
  -- settings that are in their ranges are allowed
  pub in_allowed : (SettingOut S → ⊥) → allowed_of S ≡ true
  in_allowed inside = split (allowed_of S) (λ e. e) (λ e. absurd (inside (refused_out S e)))

  allowed_in : allowed_of S ≡ true → SettingOut S → ⊥
  allowed_in e o = true≢false (sym e ∙ out_refused S o)

  module _ (f : Summary) where
    in_sound : (SummaryOut f → ⊥) → file_sound f ≡ true
    in_sound inside = split (file_sound f) (λ e. e) (λ e. absurd (inside (unsound_out f e)))

    only : (t : Told) → report_of (begin_with S f).answer ≡ Some t → t.number ≡ 15 → (SettingOut S → ⊥) × SummaryOut f
    only t e n =
        split (allowed_of S)
        (λ a. (allowed_in a, split (file_sound f) (λ s. waits S f t (rw (← begin_sound S f a s) at e)) (unsound_out f)))
        (λ a. let k = tells S Setting t (rw (← begin_out S f a) at e) in absurd (let y : ⊥ = omega (arith, k, n) in y))

    pub fifteen_at_begin : FifteenAtBegin S f
    unfolding refused_of over_of report_of
    fifteen_at_begin =
        record {
          only = only;
          when = λ inside o. rw (← begin_unsound S f (in_allowed inside) (out_unsound f o)) refl;
          goes = λ inside o. rw (← begin_sound S f (in_allowed inside) (in_sound o)) (started S f);
        }
