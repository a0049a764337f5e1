-- 28 by the rule: given exactly where steps 1 and 2 passed 23 to 27 and the rule's places are too few. Assumes nothing.
use mathlib.Core.Path.{◌≡◌, sym, ap, ◌∙◌}
use mathlib.Core.List.{List, []}
use Prim.Native.Nat.{ℕ, ◌+◌, ◌<◌}
use native.Mathlib.Omega.{arith}
use Rattle.std.specs.Prelude.{Some}
use Rattle.counts.specs.Counts.{line_number, line_place, config_number}
use Rattle.summary.specs.declared.Told.{Told}
use Rattle.summary.specs.Answers.{told, plain}
use Rattle.image.specs.Meets.{Meets}
use Rattle.guide.specs.Plan.{Reply}
use Rattle.guide.specs.Course.{Said, Now, over, unfit, judged}
use Rattle.guide.specs.Course as course
use Rattle.guide.proofs.ShortOfPlaces.{short_passes, passes_short, Ends28, course_28}
use Rattle.guide.specs.Wire.{in_use}
use Rattle.guide.proofs.LineBytes.{in_use_lem}
use Rattle.session.specs.declared.Settings.{Settings}
use Rattle.session.specs.Terms.{kept_of, keeping}
use Rattle.session.specs.declared.Handed.{Handed}
use Rattle.demands.specs.Runs.{BegunFor}
use Rattle.demands.specs.Headline.{Allowed, Keeps, rule1, rule2, target_in}
use Rattle.demands.specs.Demands.{content_in, report_for}
use Rattle.demands.specs.Rules.{reported, TooFew, under1, under2, ShortOfPlaces, PlacesExactly}
use Rattle.demands.proofs.SettingsSay.{kept_is}
use Rattle.demands.proofs.Demand2.{demand2}

few_is : {k counter r kept : ℕ} → Keeps r kept → TooFew k counter r → counter < k + kept
unfolding kept_of
few_is {kept = kept} r (under1 h) = let none : 0 ≡ kept = kept_is r in omega (arith, h)
few_is {kept = kept} r (under2 h) = let two : 2 ≡ kept = kept_is r in omega (arith, h)

is_few : {k counter r kept : ℕ} → Keeps r kept → counter < k + kept → TooFew k counter r
is_few rule1 h = under1 (omega arith)
is_few rule2 h = under2 h

-- what is reported of a course tells it
tells_28 : (x : Now) → report_for x ≡ Some (plain 28) → x ≡ over 28 0
tells_28 course.waiting e = let z : ◌≡◌ {A = ℕ} 0 1 = cc in absurd (let y : ⊥ = omega arith in y)
tells_28 (over m N) e =
    let same : told m (line_number 0) (line_place 0) (config_number N) ≡ plain 28 = cc in
    let k : m ≡ 28 = ap (λ (t : Told). t.number) same in
    let z : N ≡ 0 = ap (λ (t : Told). t.config.0) same in
    rw (k, z)

pub places_exactly : (S : Settings) {kept : ℕ} → Keeps S.rule kept → {text : List ℕ} (m : Meets text) → Allowed (keeping kept S) → {h : Handed} → BegunFor S text h → (rs : List Reply)
    → PlacesExactly S m h rs
places_exactly S {kept} r {text} m a {h} b rs = record { only = only; when = when }
  where
    only : reported text h rs ≡ Some (plain 28) → ShortOfPlaces S m rs
    only e =
        let d = demand2 S (in_use_lem S.address) r m a rs b in
        let c : Ends28 (keeping kept S) (content_in (in_use S.address) m) rs = course_28 d.goes (tells_28 d.now (sym d.tells ∙ e)) in
        let p = short_passes (target_in m) kept c.said.read c.first in
        record {
          captured = c.said.captured;
          read = c.said.read;
          left = c.left;
          came = c.came;
          counted = p.0.counted;
          same = p.0.same;
          young = p.0.young;
          kind = p.0.kind;
          few = is_few r p.1;
        }

    when : ShortOfPlaces S m rs → reported text h rs ≡ Some (plain 28)
    when s =
        let w : Said = record { captured = s.captured; read = s.read; busy = []; last = 0; banks = 0 } in
        let f = passes_short (target_in m) kept s.read
        (record { counted = s.counted; same = s.same; young = s.young; kind = s.kind; places = omega arith }) (few_is r s.few) in
        let d = demand2 S (in_use_lem S.address) r m a rs b in
        let o = d.only (over 28 0) _ (judged _ s.left 28 0 s.came (unfit w 28 0 f)) in
        d.tells ∙ ap (λ (x : Now). report_for x) (sym o.0)
