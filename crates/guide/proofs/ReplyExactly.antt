-- 20 to 22 exactly when: a reply to a request that there is halts the session with the number that its table gives first, and one in
-- form has none. Assumes nothing.
use mathlib.Core.Path.{◌≡◌, refl, sym, ◌∙◌}
use mathlib.Core.Logic.{◌⊎◌, inl, inr}
use Prim.Native.Nat.{ℕ, ◌≤◌, ◌<◌}
use native.Mathlib.Omega.{arith}
use lib.Dec.{ltb}
use borrow.Author.Tests.{ltb-true, ltb-false}
use Rattle.std.specs.Prelude.{Result, Ok, Err}
use Rattle.promise.specs.First.{First}
use Rattle.promise.proofs.Basics.{split}
use Rattle.bus.specs.declared.Request.{Request}
use Rattle.bus.specs.declared.Misreply.{Misreply}
use Rattle.bus.specs.declared.Misreply.TheVariants.{Unanswered, Misshapen, Miscoded}
use Rattle.bus.specs.ReplyForm.{form_of}
use Rattle.bus.specs.InForm.{Made, InForm, Says, Means, WrongShape}
use Rattle.bus.proofs.FormMeans.{says_is, form_means}
use Rattle.guide.specs.declared.Reason.{Reason}
use Rattle.guide.specs.declared.Reason.TheVariants.{Nack, Shape, Pec}
use Rattle.guide.specs.declared.Verdict.TheVariants.{Halted}
use Rattle.guide.specs.Numbers.{reason_number}
use Rattle.guide.specs.Plan.{Reply, Plan, done}
use Rattle.guide.specs.Guide.{hear}
use Rattle.guide.specs.Verdicts.{ReplyTable, NACK, SHAPE, PEC}

pub reply_turns : {q : Request} {r : Reply} {m N : ℕ} → ReplyTable q r m N → (20 ≤ m) × (m ≤ 22)
reply_turns (NACK e) = (omega arith, omega arith)
reply_turns (SHAPE w) = (omega arith, omega arith)
reply_turns (PEC w) = (omega arith, omega arith)

module _ (q : Request) (r : Reply) where
  abbrev form : Result ℕ Misreply
  form = form_of q r.kind r.bytes

  -- ---- the first of the table halts the session

  pub record Halts (m N : ℕ) : Type 0 where
    pub reason : Reason
    pub number : reason_number reason ≡ m
    pub plain : 0 ≡ N
    pub halts : (next : ℕ → Plan) → hear form next ≡ done (Halted reason)

  as_said : (x : Result ℕ Misreply) → Says q r.kind r.bytes x → form ≡ x
  as_said x s = says_is q r.kind r.bytes x s

  shape_form : (r.kind ≡ 0 → ⊥) → (1 < r.kind) ⊎ WrongShape q r.bytes → form ≡ Err Misshapen
  unfolding Says
  shape_form some (inl h) = as_said (Err Misshapen) (inl h)
  shape_form some (inr w) =
      split (ltb 1 r.kind) (λ e. as_said (Err Misshapen) (inl (ltb-true 1 r.kind e)))
      (λ e. let one : r.kind ≡ 1 = omega (arith, ltb-false 1 r.kind e, some) in as_said (Err Misshapen) (inr (one, w)))

  pub first_halts : {m N : ℕ} → First (ReplyTable q r) m N → Halts m N
  unfolding hear Says
  first_halts f = by f.applies f.none
    where
      by : {m N : ℕ} → ReplyTable q r m N → ((i t : ℕ) → i < m → ReplyTable q r i t → ⊥) → Halts m N
      by (NACK e) none = record { reason = Nack; number = refl; plain = refl; halts = λ next. rw (as_said (Err Unanswered) e) }
      by (SHAPE w) none =
          let is : form ≡ Err Misshapen = shape_form (λ e. none 20 0 (omega arith) (NACK e)) w in
          record { reason = Shape; number = refl; plain = refl; halts = λ next. rw is }
      by (PEC w) none =
          let some : r.kind ≡ 0 → ⊥ = λ e. none 20 0 (omega arith) (NACK e) in
          let few : 1 < r.kind → ⊥ = λ h. none 21 0 (omega arith) (SHAPE (inl h)) in
          let one : r.kind ≡ 1 = split (ltb 1 r.kind) (λ e. absurd (few (ltb-true 1 r.kind e))) (λ e. omega (arith, ltb-false 1 r.kind e, some)) in
          let is : form ≡ Err Miscoded = as_said (Err Miscoded) (one, w) in
          record { reason = Pec; number = refl; plain = refl; halts = λ next. rw is }

  -- ---- every reply is in form, or the table has a first

  not_under : {i t : ℕ} → i < 20 → ReplyTable q r i t → ⊥
  not_under h row = omega (arith, reply_turns row)

  no_nack : 1 ≤ r.kind → {i t : ℕ} → i < 21 → ReplyTable q r i t → ⊥
  no_nack k h (NACK e) = omega arith
  no_nack k h (SHAPE w) = omega arith
  no_nack k h (PEC w) = omega arith

  no_shape : r.kind ≡ 1 → form ≡ Err Miscoded → {i t : ℕ} → i < 22 → ReplyTable q r i t → ⊥
  unfolding Says
  no_shape k e h (NACK f) = omega arith
  no_shape k e h (SHAPE (inl f)) = omega arith
  no_shape k e h (SHAPE (inr w)) =
      let is : (Err Misshapen) ≡ Err Miscoded = sym (as_said (Err Misshapen) (inr (k, w))) ∙ e in
      let z : ◌≡◌ {A = ℕ} 0 1 = cc in omega arith
  no_shape k e h (PEC w) = omega arith

  pub data Replied : Type 0 where
    in_form : (w : ℕ) → InForm q r.kind r.bytes w → Replied
    halted : (m N : ℕ) → First (ReplyTable q r) m N → Replied

  some_kind : (1 < r.kind) ⊎ ((r.kind ≡ 1) × WrongShape q r.bytes) → 1 ≤ r.kind
  some_kind (inl h) = omega arith
  some_kind (inr (e, w)) = omega arith

  shape_row : (1 < r.kind) ⊎ ((r.kind ≡ 1) × WrongShape q r.bytes) → ReplyTable q r 21 0
  shape_row (inl h) = SHAPE (inl h)
  shape_row (inr (e, w)) = SHAPE (inr w)

  pub replied : Made q → Replied
  unfolding Means Says
  replied made = by form refl
    where
      said : (x : Result ℕ Misreply) → form ≡ x → Says q r.kind r.bytes x
      said x e = (form_means made r.kind r.bytes x).0 e

      by : (x : Result ℕ Misreply) → form ≡ x → Replied
      by (Err Unanswered) e = halted 20 0 (record { applies = NACK (said (Err Unanswered) e); none = λ i t h x. not_under h x })
      by (Err Misshapen) e =
          let s = said (Err Misshapen) e in
          halted 21 0 (record { applies = shape_row s; none = λ i t h x. no_nack (some_kind s) h x })
      by (Err Miscoded) e =
          let s = said (Err Miscoded) e in
          halted 22 0 (record { applies = PEC s.1; none = λ i t h x. no_shape s.0 e h x })
      by (Ok w) e = in_form w (said (Ok w) e)
