-- Demand 2: each request and each verdict are what the steps give for the replies so far, and nothing else is. Assumes nothing.
use mathlib.Core.Path.{◌≡◌, refl, sym, ap, ◌∙◌}
use mathlib.Core.Logic.{◌⊎◌, inl, inr}
use mathlib.Core.List.{List}
use Prim.Native.Nat.{ℕ, ◌≤◌}
use native.Mathlib.Omega.{arith}
use Rattle.summary.specs.declared.Summary.{Summary}
use Rattle.image.specs.Check.{check_of}
use Rattle.image.specs.Meets.{Meets}
use Rattle.image.proofs.AcceptedExactly.{accepted_exactly}
use Rattle.guide.specs.declared.Verdict.TheVariants.{Done, Setting, File, Mismatch, Halted, State}
use Rattle.summary.specs.Answers.{refusal_told}
use Rattle.summary.proofs.Numbers.{refusal_number}
use Rattle.bus.specs.declared.Request.{Request}
use Rattle.guide.specs.Terms.{Terms}
use Rattle.guide.specs.Wire.{Wire, RightAt}
use Rattle.guide.specs.Plan.{Reply, Outcome, waiting, ended, verdict}
use Rattle.guide.specs.Matched.{Exchange}
use Rattle.guide.specs.Guide.{guide_for}
use Rattle.guide.specs.Course.{Content, Now, over, now_of, Judged, unfit, PROGRAM, BANKS, MISMATCH, DONE, Course, waits, refused, judged, CourseExactly}
use Rattle.guide.specs.Course as course
use Rattle.guide.proofs.CourseExactly.{course_exactly}
use Rattle.guide.proofs.FitExactly.{turns}
use Rattle.guide.proofs.ReplyExactly.{reply_turns}
use Rattle.session.specs.declared.Settings.{Settings}
use Rattle.session.specs.Reports.{report_of}
use Rattle.session.specs.Terms.{keeping}
use Rattle.session.specs.declared.Handed.{Handed}
use Rattle.demands.specs.Runs.{BegunFor, sent, after}
use Rattle.demands.specs.Headline.{Allowed, Keeps}
use Rattle.demands.specs.Guided.{Premises, answer_for, Guided}
use Rattle.demands.specs.Demands.{report_for, Demand2}
use Rattle.demands.proofs.PremisesGive.{facts}
use Rattle.demands.proofs.Guided.{begun_is, guided}
use Rattle.demands.proofs.ContentIs.{content_is}

-- a text that meets the document is accepted
pub premises : (S : Settings) {kept : ℕ} → Keeps S.rule kept → {text : List ℕ} → Meets text → Allowed (keeping kept S) → Premises S kept text (check_of text).summary
premises S r {text} m a = record { accepted = (accepted_exactly text).meets_accepted m; summary = refl; rule = r; allowed = a }

-- ---- no verdict of a session is a refusal of the file, of a setting or of a summary

-- 0, or one from 20 on
abbrev LateNumber : Now → Type 0
LateNumber course.waiting = Unit
LateNumber (over number N) = (number ≡ 0) ⊎ (20 ≤ number)

judged_late : {T : Terms} {c : Content} {xs : List Exchange} {number N : ℕ} → Judged T c xs number N → (number ≡ 0) ⊎ (20 ≤ number)
judged_late (unfit w number N f) = inr (omega (arith, turns _ _ _ f.applies))
judged_late (PROGRAM w f e g) = inr (omega arith)
judged_late (BANKS w g f) = inr (omega arith)
judged_late (MISMATCH w r before x behind crc e f) = inr (omega arith)
judged_late (DONE w r) = inl refl

course_late : {T : Terms} {c : Content} {rs : List Reply} (x : Now) {qs : List Request} → Course T c rs x qs → LateNumber x
course_late _ (waits q o) = tt
course_late _ (refused q r later o number N f) = inr (reply_turns f.applies).0
course_late _ (judged xs left number N h j) = judged_late j

early : {A : Type 0} (n : ℕ) → 1 ≤ n → n ≤ 15 → (n ≡ 0) ⊎ (20 ≤ n) → A
early n f g (inl e) = absurd (let y : ⊥ = omega arith in y)
early n f g (inr e) = absurd (let y : ⊥ = omega arith in y)

-- so its report has no line and no place
reports : (o : Outcome) → LateNumber (now_of o) → report_of (answer_for o) ≡ report_for (now_of o)
unfolding now_of answer_for report_of
reports waiting h = refl
reports (ended Done) h = refl
reports (ended Setting) h = early 14 (omega arith) (omega arith) h
reports (ended (File r)) h = let n = refusal_number r in early (refusal_told r).number n.some (omega (arith, n.few)) h
reports (ended (Mismatch N)) h = refl
reports (ended (Halted r)) h = refl
reports (ended State) h = early 15 (omega arith) (omega arith) h

module _ (S : Settings) {W : Wire} (right : RightAt S.address W) {kept : ℕ} (r : Keeps S.rule kept) {text : List ℕ} (m : Meets text)
    (a : Allowed (keeping kept S)) where
  abbrev T : Terms
  T = keeping kept S

  abbrev file : Summary
  file = (check_of text).summary

  pub course_of : (rs : List Reply) → CourseExactly T file text rs
  course_of rs = course_exactly T file text a.some (facts (premises S r m a)).few rs

  -- of any run that the guide gives
  by_guide : (rs : List Reply) {out : List Request} {last : Handed} → Guided T file text rs out last → Demand2 W T m rs out last
  by_guide rs g =
      let o = verdict (guide_for T file text) rs in
      let e = course_of rs in
      record {
        now = now_of o;
        tells = ap report_of g.same_answer ∙ reports o (course_late (now_of o) e.goes);
        goes = rw g.same_requests (rw (content_is m right) at e.goes);
        only = λ x qs c. let k = e.only x qs (rw (content_is m right) c) in (k.0, k.1 ∙ sym g.same_requests);
      }

  module _ (rs : List Reply) where
    abbrev Holds : Handed → Type 0
    Holds start = Demand2 W T m rs (sent text start rs) (after text start rs)

    pub demand2 : {h : Handed} → BegunFor S text h → Holds h
    demand2 b = rw (begun_is (premises S r m a) b) (by_guide rs (guided (premises S r m a) rs))
