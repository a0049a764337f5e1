-- The test of a line's form is true at the table's rows, and only there. Assumes nothing.
use mathlib.Core.Path.{◌≡◌, refl}
use mathlib.Core.Bool.{Bool, true, false, cond}
use mathlib.Core.Logic.{inl, inr}
use Prim.Native.Nat.{ℕ, ◌≤◌}
use native.Mathlib.Omega.{arith}
use lib.Dec.{eqb, leb, ltb}
use borrow.Author.Tests.{leb-true, leb-false, le-leb, lt-leb, ltb-true, lt-ltb, eqb-true, eqb-false}
use Rattle.line.specs.Reading.{some_to32, head_ok, body_ok, form_ok}
use Rattle.line.specs.LineForm.{Row, identity, revision, third, fourth, two, four}
use Rattle.promise.proofs.Basics.{split, and_true}

pub row_ok : {n tag command count : ℕ} → Row n tag command count → form_ok n tag 0xC0 command count ≡ true
unfolding form_ok head_ok body_ok some_to32
row_ok identity = refl
row_ok revision = refl
row_ok (third count g h) = rw (lt-ltb 0 count g, le-leb count 32 h)
row_ok (fourth count g h) = rw (lt-ltb 0 count g, le-leb count 32 h)
row_ok (two n command h (inl e)) = rw (lt-leb n 4 h, e)
row_ok (two n command h (inr e)) = rw (lt-leb n 4 h, e)
row_ok (four n command h (inl e)) = rw (lt-leb n 4 h, e)
row_ok (four n command h (inr e)) = rw (lt-leb n 4 h, e)

pub row_count : {n tag command count : ℕ} → Row n tag command count → (1 ≤ count) × (count ≤ 32)
row_count identity = (omega arith, omega arith)
row_count revision = (omega arith, omega arith)
row_count (third count g h) = (g, h)
row_count (fourth count g h) = (g, h)
row_count (two n command h e) = (omega arith, omega arith)
row_count (four n command h e) = (omega arith, omega arith)

-- the count of data bytes by the line or by its command
pub record CountBy (n command count : ℕ) : Type 0 where
  pub head : n ≤ 2 → count ≡ 4
  pub c6 : command ≡ 0xC6 → count ≡ 4
  pub e7 : command ≡ 0xE7 → count ≡ 2

pub row_by : {n tag command count : ℕ} → Row n tag command count → CountBy n command count
row_by identity = record { head = λ k. refl; c6 = λ e. refl; e7 = λ e. omega arith }
row_by revision = record { head = λ k. refl; c6 = λ e. refl; e7 = λ e. omega arith }
row_by (third count g h) = record { head = λ k. omega arith; c6 = λ e. omega arith; e7 = λ e. omega arith }
row_by (fourth count g h) = record { head = λ k. omega arith; c6 = λ e. omega arith; e7 = λ e. omega arith }
row_by (two n command h (inl p)) = record { head = λ k. omega arith; c6 = λ e. omega arith; e7 = λ e. refl }
row_by (two n command h (inr p)) = record { head = λ k. omega arith; c6 = λ e. omega arith; e7 = λ e. refl }
row_by (four n command h (inl p)) = record { head = λ k. refl; c6 = λ e. refl; e7 = λ e. omega arith }
row_by (four n command h (inr p)) = record { head = λ k. refl; c6 = λ e. refl; e7 = λ e. omega arith }

-- ---- back

eq_and : (a k : ℕ) (b : Bool) → cond (eqb a k) b false ≡ true → (a ≡ k) × (b ≡ true)
eq_and a k b e = let f = and_true (eqb a k) b e in (eqb-true a k f.0, f.1)

module _ (n command count : ℕ) where
  head_row : 1 ≤ n → n ≤ 4 → head_ok n command count ≡ true → Row n 0x49 command count
  unfolding head_ok some_to32
  head_row g h e =
      split (eqb n 1)
      (λ a. let p = eq_and command 0xAD (eqb count 4) (simp a at e) in rw (eqb-true n 1 a, p.0, eqb-true count 4 p.1) identity)
      (λ a. split (eqb n 2)
      (λ b. let p = eq_and command 0xAE (eqb count 4) (simp (a, b) at e) in rw (eqb-true n 2 b, p.0, eqb-true count 4 p.1) revision)
      (λ b. split (eqb n 3)
      (λ c. let p = eq_and command 0x01 (some_to32 count) (simp (a, b, c) at e) in
      let q = and_true (ltb 0 count) (leb count 32) p.1 in
      rw (eqb-true n 3 c, p.0) (third count (ltb-true 0 count q.0) (leb-true count 32 q.1)))
      (λ c. let p = eq_and command 0x02 (some_to32 count) (simp (a, b, c) at e) in
      let q = and_true (ltb 0 count) (leb count 32) p.1 in
      let m : n ≡ 4 = omega (arith, eqb-false n 1 a, eqb-false n 2 b, eqb-false n 3 c) in
      rw (m, p.0) (fourth count (ltb-true 0 count q.0) (leb-true count 32 q.1)))))

  body_row : 5 ≤ n → body_ok command count ≡ true → Row n 0 command count
  unfolding body_ok
  body_row h e =
      split (eqb command 0xC7) (λ a. rw (eqb-true count 2 (simp a at e)) (two n command h (inl (eqb-true command 0xC7 a))))
      (λ a. split (eqb command 0xE7)
      (λ b. rw (eqb-true count 2 (simp (a, b) at e)) (two n command h (inr (eqb-true command 0xE7 b))))
      (λ b. split (eqb command 0xC5)
      (λ c. rw (eqb-true count 4 (simp (a, b, c) at e)) (four n command h (inl (eqb-true command 0xC5 c))))
      (λ c. let p = eq_and command 0xC6 (eqb count 4) (simp (a, b, c) at e) in rw (eqb-true count 4 p.1) (four n command h (inr p.0)))))

  pub ok_row : (tag address : ℕ) → 1 ≤ n → form_ok n tag address command count ≡ true → (address ≡ 0xC0) × Row n tag command count
  unfolding form_ok
  ok_row tag address g e =
      let p = eq_and address 0xC0 _ e in
      split (leb n 4)
      (λ h. let q = eq_and tag 0x49 (head_ok n command count) (simp h at p.1) in (p.0, rw q.0 (head_row g (leb-true n 4 h) q.1)))
      (λ h. let q = eq_and tag 0 (body_ok command count) (simp h at p.1) in (p.0, rw q.0 (body_row (leb-false n 4 h) q.1)))
