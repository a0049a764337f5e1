-- The judgement of step 2 passes exactly where the values match, for all values. Assumes nothing.
use mathlib.Core.Path.{◌≡◌, refl, ap}
use mathlib.Core.Logic.{inl, inr}
use mathlib.Core.Bool.{true, false, false≢true}
use Prim.Native.Nat.{ℕ, ◌+◌, ◌/◌, ◌≤◌}
use native.Mathlib.Omega.{arith}
use lib.Dec.{eqb, ltb}
use borrow.Author.Tests.{ltb-true, ltb-false, lt-ltb, le-ltb, eqb-true, eq-eqb, ne_eqb}
use Rattle.std.specs.Prelude.{Option, Some, None, Result, Ok, Err}
use Rattle.counts.specs.declared.Kind.{Kind}
use Rattle.counts.specs.declared.Kind.TheVariants.{Legacy, Production}
use Rattle.promise.proofs.Basics.{split}
use Rattle.guide.specs.declared.Reason.{Reason}
use Rattle.guide.specs.declared.Reason.TheVariants.{Counter, Identity, Flag, Old, OtherKind, Places}
use Rattle.guide.specs.Judged.{kind_wanted, same_kind, fit_kind, fit_of}
use Rattle.guide.specs.Matched.{Wants, legacy, production, Fits}
use Rattle.guide.specs.Statements.{JudgedExactly}
use Rattle.guide.specs.declared.Words.{Words}
use Rattle.guide.specs.declared.Target.{Target}

-- ---- the kind that counter and flag want

pub wants_is : {kind : Kind} {counter flag : ℕ} → Wants counter flag kind → kind_wanted counter flag ≡ Some kind
unfolding kind_wanted
wants_is {counter = counter} (legacy e h) = simp (e, lt-ltb counter 28 h)
wants_is (production (inl f)) = rw f
wants_is {flag = flag} (production (inr f)) =
    split (eqb flag 0) (λ g. simp (f, g, ne_eqb flag 0xFFFE0001 (λ x. omega (arith, eqb-true flag 0 g))))
    (λ g. split (eqb flag 0xFFFE0001) (λ h. rw (f, g, h)) (λ h. rw (f, g, h)))

none_wanted : {A : Type 0} (kind : Kind) → None ≡ Some kind → A
none_wanted kind e = let z : ◌≡◌ {A = ℕ} 0 1 = cc in absurd (let y : ⊥ = omega arith in y)

pub is_wants : (kind : Kind) (counter flag : ℕ) → kind_wanted counter flag ≡ Some kind → Wants counter flag kind
unfolding kind_wanted
is_wants kind counter flag e =
    split (eqb flag 0)
    (λ g. let other : eqb flag 0xFFFE0001 ≡ false = ne_eqb flag 0xFFFE0001 (λ x. omega (arith, eqb-true flag 0 g)) in
    split (ltb counter 28) (λ h. let k : kind ≡ Legacy = cc (simp (g, h) at e) in rw k (legacy (eqb-true flag 0 g) (ltb-true counter 28 h)))
    (λ h. split (eqb counter 28) (λ j. let k : kind ≡ Production = cc (simp (g, h, other, j) at e) in rw k (production (inr (eqb-true counter 28 j))))
    (λ j. none_wanted kind (simp (g, h, other, j) at e))))
    (λ g. split (eqb flag 0xFFFE0001) (λ h. let k : kind ≡ Production = cc (simp (g, h) at e) in rw k (production (inl (eqb-true flag 0xFFFE0001 h))))
    (λ h. split (eqb counter 28) (λ j. let k : kind ≡ Production = cc (simp (g, h, j) at e) in rw k (production (inr (eqb-true counter 28 j))))
    (λ j. none_wanted kind (simp (g, h, j) at e))))

-- ---- the judgement

fails : {A : Type 0} (r : Reason) → ◌≡◌ {A = Result (Unit {0}) Reason} (Err r) (Ok tt) → A
fails v e = let z : ◌≡◌ {A = ℕ} 0 1 = cc in absurd (let y : ⊥ = omega arith in y)

pub same_kind_lem : (kind : Kind) → same_kind kind kind ≡ true
unfolding same_kind
same_kind_lem Legacy = refl
same_kind_lem Production = refl

pub kind_same : (kind wanted : Kind) → same_kind kind wanted ≡ true → wanted ≡ kind
unfolding same_kind
kind_same Legacy Legacy e = refl
kind_same Legacy Production e = absurd (false≢true e)
kind_same Production Legacy e = absurd (false≢true e)
kind_same Production Production e = refl

module _ (target : Target) (kept : ℕ) (read : Words) where
  passing : Fits target kept read → fit_of target kept read ≡ Ok tt
  unfolding fit_of fit_kind
  passing f =
      simp (
        le-ltb 28 read.counter f.counted,
        eq-eqb read.identity target.identity f.same,
        wants_is f.kind,
        le-ltb (read.revision / 16777216) 6 f.young,
        same_kind_lem target.kind,
        le-ltb read.counter (target.configs + kept) f.places,
      )

  abbrev Known : Option Kind → Type 0
  Known x = (6 ≤ read.revision / 16777216) × (x ≡ Some target.kind) × (target.configs + kept ≤ read.counter)

  kind_known : (x : Option Kind) → fit_kind target kept read x ≡ Ok tt → Known x
  unfolding fit_kind
  kind_known None e = fails Flag e
  kind_known (Some wanted) e =
      split (ltb (read.revision / 16777216) 6) (λ a. fails Old (simp a at e))
      (λ a. split (same_kind target.kind wanted)
      (λ b. split (ltb read.counter (target.configs + kept)) (λ c. fails Places (simp (a, b, c) at e))
      (λ c. (ltb-false (read.revision / 16777216) 6 a, ap Some (kind_same target.kind wanted b), ltb-false read.counter (target.configs + kept) c)))
      (λ b. fails OtherKind (simp (a, b) at e)))

  matching : fit_of target kept read ≡ Ok tt → Fits target kept read
  unfolding fit_of
  matching e =
      split (ltb 28 read.counter) (λ a. fails Counter (simp a at e))
      (λ a. split (eqb read.identity target.identity)
      (λ b. let k = kind_known (kind_wanted read.counter read.flag) (simp (a, b) at e) in
      record {
        counted = ltb-false 28 read.counter a;
        same = eqb-true read.identity target.identity b;
        young = k.0;
        kind = is_wants target.kind read.counter read.flag k.1;
        places = k.2;
      })
      (λ b. fails Identity (simp (a, b) at e)))

  pub judged_exactly : JudgedExactly target kept read
  judged_exactly = record { passes = passing; matches = matching }
