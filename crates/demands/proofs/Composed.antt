-- Document 01's one operation is a check and a beginning with its summary. Assumes nothing.
use Rattle.std.specs.Prelude.{Ok, Err}
use Prim.Native.Nat.{ℕ, ◌≤◌}
use mathlib.Core.Path.{◌≡◌, refl, sym, ◌∙◌}
use mathlib.Core.List.{List}
use native.Mathlib.Omega.{arith}
use Rattle.promise.proofs.Basics.{split}
use Rattle.summary.specs.Answers.{FileAnswer, answer_told, no_summary}
use Rattle.image.specs.Check.{check_of}
use Rattle.image.proofs.AcceptedExactly.{zero_accepts}
use Rattle.session.specs.declared.Settings.{Settings}
use Rattle.session.specs.Sound.{allowed_of}
use Rattle.session.specs.Begin.{begin_with, answered_of, begin_of}
use Rattle.session.proofs.Laws.{begin_out, begin_answered, begin_not}
use Rattle.demands.specs.Exactly.{configs}
use Rattle.demands.specs.AtBegin.{nothing, Composed}
use Rattle.demands.proofs.PremisesGive.{refused_summary}
use Rattle.demands.proofs.SettingsOut.{out_refused}
use Rattle.demands.proofs.FourteenExactly.{begun_told}
use Rattle.demands.proofs.FifteenAtBegin.{fifteen_at_begin}

module _ (S : Settings) (text : List ℕ) where
  accepted : (answer_told (check_of text).answer).number ≡ 0 → begin_of S text ≡ begin_with S (check_of text).summary
  unfolding answered_of
  accepted e =
      split (allowed_of S)
      (λ a. sym (begin_answered S text (check_of text) (Ok tt) refl a (zero_accepts (check_of text).answer e)))
      (λ a. sym (begin_not S text a) ∙ begin_out S (check_of text).summary a)

  zeros : (a : FileAnswer) → (check_of text).answer ≡ a → 1 ≤ (answer_told a).number → (check_of text).summary ≡ nothing
  unfolding no_summary
  zeros (Ok tt) e h = absurd (let y : ⊥ = omega (arith, h) in y)
  zeros (Err r) e h = refused_summary text r e

  pub composed : Composed S text
  composed =
      record {
        accepted = accepted;
        setting = λ f o. sym (begin_not S text (out_refused S o)) ∙ begin_out S f (out_refused S o);
        zeros = zeros (check_of text).answer refl;
        refused = λ h inside. (
          rw (zeros (check_of text).answer refl h) ((fifteen_at_begin S nothing).when inside (configs (λ p. omega (arith, p.0)))),
          begun_told S text inside (check_of text).answer refl (λ z. let y : ⊥ = omega (arith, h, z) in y),
        );
      }
