-- 23 to 28 exactly when: the judgement of step 2 fails with the number that its table gives first. Assumes nothing.
use mathlib.Core.Path.{◌≡◌, refl, sym, subst, ◌∙◌}
use mathlib.Core.Bool.{Bool, true, false, cond, not, true≢false}
use Prim.Native.Nat.{ℕ, suc, ◌+◌, ◌/◌, ◌≤◌, ◌<◌}
use native.Mathlib.Omega.{arith}
use lib.Dec.{eqb, ltb}
use borrow.Author.Tests.{ltb-true, lt-ltb, eqb-false, ne_eqb}
use Rattle.std.specs.Prelude.{Option, Some, None, Result, Ok, Err}
use Rattle.counts.specs.declared.Kind.{Kind}
use Rattle.promise.specs.First.{First}
use Rattle.promise.proofs.Basics.{split}
use Rattle.promise.proofs.First.{NoneBefore, none_next, first_one}
use Rattle.guide.specs.declared.Reason.{Reason}
use Rattle.guide.specs.declared.Target.{Target}
use Rattle.guide.specs.declared.Words.{Words}
use Rattle.guide.specs.Numbers.{reason_number}
use Rattle.guide.specs.Judged.{kind_wanted, same_kind, fit_kind, fit_of}
use Rattle.guide.specs.Verdicts.{FitTable, COUNTER, IDENTITY, FLAG, OLD, KIND, PLACES}
use Rattle.guide.proofs.JudgedExactly.{wants_is, is_wants, same_kind_lem, kind_same}

module _ (target : Target) (kept : ℕ) (read : Words) where
  abbrev Table : ℕ → ℕ → Type 0
  Table = FitTable target kept read

  abbrev wanted : Option Kind
  wanted = kind_wanted read.counter read.flag

  -- ---- by its number alone: the test that a row fails

  abbrev known : Option Kind → Bool
  known None = false
  known (Some kind) = true

  abbrev same_as : Option Kind → Bool
  same_as None = false
  same_as (Some kind) = same_kind target.kind kind

  unfoldable passes : ℕ → Bool
  passes m =
      cond (eqb m 23) (not (ltb 28 read.counter))
      (cond (eqb m 24) (eqb read.identity target.identity)
      (cond (eqb m 25) (known wanted)
      (cond (eqb m 26) (not (ltb (read.revision / 16777216) 6))
      (cond (eqb m 27) (same_as wanted)
      (not (ltb read.counter (target.configs + kept)))))))

  fails : {m N : ℕ} → Table m N → passes m ≡ false
  unfolding passes
  fails (COUNTER h) = rw (lt-ltb 28 read.counter h)
  fails (IDENTITY f) = ne_eqb read.identity target.identity f
  fails (FLAG f) = by wanted refl
    where
      by : (x : Option Kind) → wanted ≡ x → known x ≡ false
      by None e = refl
      by (Some kind) e = absurd (f kind (is_wants kind read.counter read.flag e))
  fails (OLD h) = rw (lt-ltb (read.revision / 16777216) 6 h)
  fails (KIND kind w f) =
      rw (wants_is w)
      (split (same_kind target.kind kind) (λ e. absurd (f (sym (kind_same target.kind kind e)))) (λ e. e))
  fails (PLACES h) = rw (lt-ltb read.counter (target.configs + kept) h)

  pub turns : {m N : ℕ} → Table m N → (23 ≤ m) × (m < 29) × (N ≡ 0)
  turns (COUNTER h) = (omega arith, omega arith, refl)
  turns (IDENTITY f) = (omega arith, omega arith, refl)
  turns (FLAG f) = (omega arith, omega arith, refl)
  turns (OLD h) = (omega arith, omega arith, refl)
  turns (KIND kind w f) = (omega arith, omega arith, refl)
  turns (PLACES h) = (omega arith, omega arith, refl)

  none_yet : NoneBefore Table 23
  none_yet m N h row = let between = turns row in omega arith

  passed : {m : ℕ} → NoneBefore Table m → passes m ≡ true → NoneBefore Table (suc m)
  passed before e = none_next before (λ N row. true≢false (sym e ∙ fails row))

  -- ---- a judgement tells the first of its table, or that there is none

  Tells : Result (Unit {0}) Reason → Type 0
  Tells (Ok tt) = (m N : ℕ) → Table m N → ⊥
  Tells (Err r) = First Table (reason_number r) 0

  kind_tells : (x : Option Kind) → wanted ≡ x → NoneBefore Table 25 → Tells (fit_kind target kept read x)
  unfolding fit_kind Tells passes
  kind_tells None e before =
      record { applies = FLAG (λ kind w. let z : None ≡ Some kind = sym e ∙ wants_is w in let o : ◌≡◌ {A = ℕ} 0 1 = cc in omega arith); none = before }
  kind_tells (Some kind) e before =
      let flag = passed before (rw e) in
      split (ltb (read.revision / 16777216) 6) (λ a. rw a (record { applies = OLD (ltb-true (read.revision / 16777216) 6 a); none = flag }))
      (λ a. let old = passed flag (rw a) in
      split (same_kind target.kind kind)
      (λ b. let same = passed old (rw e b) in
      split (ltb read.counter (target.configs + kept))
      (λ c. rw (a, b, c) (record { applies = PLACES (ltb-true read.counter (target.configs + kept) c); none = same }))
      (λ c. rw (a, b, c) (λ m N row. passed same (rw c) m N (turns row).1 row)))
      (λ b. rw (a, b) (record { applies = KIND kind (is_wants kind read.counter read.flag e) (unlike kind b); none = old })))
    where
      unlike : (kind : Kind) → same_kind target.kind kind ≡ false → target.kind ≡ kind → ⊥
      unlike kind b x = true≢false (sym (same_kind_lem kind) ∙ (rw x at b))

  fit_tells : Tells (fit_of target kept read)
  unfolding fit_of Tells passes
  fit_tells =
      split (ltb 28 read.counter) (λ a. rw a (record { applies = COUNTER (ltb-true 28 read.counter a); none = none_yet }))
      (λ a. let counted = passed none_yet (rw a) in
      split (eqb read.identity target.identity) (λ b. rw (a, b) (kind_tells wanted refl (passed counted b)))
      (λ b. rw (a, b) (record { applies = IDENTITY (eqb-false read.identity target.identity b); none = counted })))

  pub fit_first : (r : Reason) → fit_of target kept read ≡ Err r → First Table (reason_number r) 0
  unfolding Tells
  fit_first r e = subst Tells e fit_tells

  pub fit_none : fit_of target kept read ≡ Ok tt → (m N : ℕ) → Table m N → ⊥
  unfolding Tells
  fit_none e = subst Tells e fit_tells

  -- ---- and the first is what fails

  pub fit_is : {m N : ℕ} → First Table m N → (r : Reason) × (fit_of target kept read ≡ Err r) × (reason_number r ≡ m) × (0 ≡ N)
  unfolding Tells
  fit_is {m} {N} f = by (fit_of target kept read) refl
    where
      by : (x : Result (Unit {0}) Reason) → fit_of target kept read ≡ x → (r : Reason) × (x ≡ Err r) × (reason_number r ≡ m) × (0 ≡ N)
      by (Ok tt) e = absurd (subst Tells e fit_tells m N f.applies)
      by (Err r) e =
          let o = first_one (λ i a b x y. (turns x).2 ∙ sym (turns y).2) (fit_first r e) f in
          (r, refl, o.0, o.1)
