-- With the same text, replies and other settings, rule 2 gives what rule 1 gives, or it ends with 28. Assumes nothing.
use Rattle.std.specs.Prelude.{Ok, Err}
use mathlib.Core.Path.{◌≡◌, refl, sym, ap, ◌∙◌}
use mathlib.Core.Logic.{◌⊎◌, inl, inr}
use mathlib.Core.Bool.{true}
use mathlib.Core.List.{List, [], ◌∷◌}
use Prim.Native.Nat.{ℕ}
use native.Mathlib.Omega.{arith}
use Rattle.std.specs.Prelude.{Some}
use Rattle.promise.proofs.Basics.{split}
use Rattle.summary.specs.declared.Told.{Told}
use Rattle.summary.specs.Answers.{FileAnswer, answer_told, plain}
use Rattle.image.specs.Check.{check_of}
use Rattle.image.specs.Meets.{Meets}
use Rattle.image.proofs.AcceptedExactly.{accepted_exactly}
use Rattle.guide.specs.declared.Verdict.{Verdict}
use Rattle.guide.specs.declared.Verdict.TheVariants.{Setting, File}
use Rattle.guide.specs.Plan.{Reply}
use Rattle.guide.specs.Course.{Now, over, Course}
use Rattle.guide.proofs.FewerKept.{course_with_fewer}
use Rattle.guide.specs.Wire.{in_use}
use Rattle.session.specs.declared.Settings.{Settings}
use Rattle.session.specs.declared.Answer.TheVariants.{Over}
use Rattle.session.specs.Terms.{keeping}
use Rattle.session.specs.Moves.{over_of}
use Rattle.session.specs.Reports.{report_of}
use Rattle.session.specs.Sound.{known_rule, setting_tests, allowed_of}
use Rattle.session.specs.Begin.{fresh_of, refused_of, answered_of, begin_of}
use Rattle.session.specs.Reply.{stage_of, reply_of}
use Rattle.demands.specs.Runs.{at_once, sent, after}
use Rattle.demands.specs.Demands.{content_in, report_for}
use Rattle.demands.specs.Rules.{reported, Demanded, with_rule, under, SameUnderBoth, RulesAgree}
use Rattle.session.proofs.Laws.{begin_answered, begin_not}
use Rattle.demands.proofs.SettingsSay.{allowed_is, refused_sends}
use Rattle.demands.proofs.SessionTheorem.{session_theorem}

-- a refused start answers the same whatever follows
refused_answers : (S : Settings) (text : List ℕ) (v : Verdict) (rs : List Reply) → (after text (refused_of S v) rs).answer ≡ Over v
unfolding refused_of fresh_of over_of after reply_of stage_of
refused_answers S text v [] = refl
refused_answers S text v (r ∷ rs) = refused_answers S text v rs

module _ (S : Settings) (text : List ℕ) (rs : List Reply) where
  abbrev S1 : Settings
  S1 = with_rule 1 S

  abbrev S2 : Settings
  S2 = with_rule 2 S

  same_allowed : allowed_of S1 ≡ allowed_of S2
  unfolding allowed_of setting_tests known_rule
  same_allowed = refl

  both_refused : (v : Verdict) → refused_of S2 v ≡ begin_of S2 text → refused_of S1 v ≡ begin_of S1 text → SameUnderBoth S text rs
  both_refused v e f =
      record {
        requests = rw (← e, ← f) (refused_sends S2 text v rs ∙ sym (refused_sends S1 text v rs));
        report = rw (← e, ← f) (ap report_of (refused_answers S2 text v rs ∙ sym (refused_answers S1 text v rs)));
      }

  abbrev Agree : Type 0
  Agree = SameUnderBoth S text rs ⊎ (reported text (under S text rs 2) rs ≡ Some (plain 28))

  by_course : (m : Meets text) (d : Demanded (in_use S.address) S2 2 m (under S text rs 2) rs) → Demanded (in_use S.address) S1 0 m (under S text rs 1) rs
      → Course (keeping 0 S1) (content_in (in_use S.address) m) rs d.demand2.now (sent text (under S text rs 2) rs) ⊎ (d.demand2.now ≡ over 28 0) → Agree
  by_course m d2 d1 (inl c) =
      let o = d1.demand2.only d2.demand2.now (sent text (under S text rs 2) rs) c in
      inl (record { requests = o.1; report = d2.demand2.tells ∙ (ap (λ (x : Now). report_for x) o.0 ∙ sym d1.demand2.tells) })
  by_course m d2 d1 (inr f) = inr (d2.demand2.tells ∙ ap (λ (x : Now). report_for x) f)

  accepted_agree : (m : Meets text) → allowed_of S2 ≡ true → Agree
  accepted_agree m e =
      let d2 = (session_theorem S2 m at_once rs).under_rule2 refl (allowed_is S2 e 2) in
      let d1 = (session_theorem S1 m at_once rs).under_rule1 refl (allowed_is S1 (same_allowed ∙ e) 0) in
      by_course m d2 d1 (course_with_fewer (keeping 2 S2) 0 (omega arith) (content_in (in_use S.address) m) d2.demand2.goes)

  agree : Agree
  unfolding answered_of
  agree =
      split (allowed_of S2) (λ e. by_file e (check_of text).answer refl)
      (λ e. inl (both_refused Setting (begin_not S2 text e) (begin_not S1 text (same_allowed ∙ e))))
    where
      by_file : allowed_of S2 ≡ true → (a : FileAnswer) → (check_of text).answer ≡ a → Agree
      by_file e (Ok tt) h = accepted_agree ((accepted_exactly text).accepted_meets (ap (λ (a : FileAnswer). (answer_told a).number) h)) e
      by_file e (Err r) h =
          inl (both_refused (File r) (begin_answered S2 text (check_of text) (Err r) refl e h)
          (begin_answered S1 text (check_of text) (Err r) refl (same_allowed ∙ e) h))

  pub rules_agree : RulesAgree S text rs
  rules_agree = record { agree = agree; passes = by agree }
    where
      by : Agree → reported text (under S text rs 2) rs ≡ Some (plain 0) → SameUnderBoth S text rs × (reported text (under S text rs 1) rs ≡ Some (plain 0))
      by (inl same) e = (same, sym same.report ∙ e)
      by (inr f) e =
          let z : Some (plain 28) ≡ Some (plain 0) = sym f ∙ e in
          let same : plain 28 ≡ plain 0 = cc in
          let number : ◌≡◌ {A = ℕ} 28 0 = ap (λ (t : Told). t.number) same in
          absurd (let y : ⊥ = omega arith in y)
