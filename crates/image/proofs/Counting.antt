-- The kind that a revision says, and what it says of the count of lines: n = 12 + s x k, where the lines of every configuration
-- are within the file. Assumes nothing.
use mathlib.Core.Path.{◌≡◌, refl}
use mathlib.Core.Bool.{false, cond, true≢false}
use Prim.Native.Nat.{ℕ, ◌+◌, ◌*◌, ◌/◌, ◌%◌, ◌≤◌, ◌<◌}
use native.Mathlib.Omega.{arith}
use lib.Dec.{eqb, ltb, leb}
use borrow.Author.Tests.{eqb-true, eqb-false, ltb-true, leb-true, le-leb}
use Rattle.std.specs.Prelude.{Some}
use Rattle.counts.specs.declared.Kind.{Kind}
use Rattle.counts.specs.declared.Kind.TheVariants.{Legacy, Production}
use Rattle.counts.specs.Counts.{config_number, step_of, crc_place, kind_of, line_count, up_to8, configs_of, identifier_line, crc_line}
use Rattle.counts.proofs.InsideHolds.{inside}
use Rattle.promise.proofs.Basics.{split}
use Rattle.image.specs.Says.{kind_in}
use Rattle.image.specs.Tests.{is_unknown}
use Rattle.image.specs.Meets.{KindHas, legacy0, legacy1, production6, production7}

-- ---- the revision's first byte

pub record Known (b : ℕ) (kind : Kind) (step place : ℕ) : Type 0 where
  pub found : kind_of b ≡ Some kind
  pub steps : step ≡ step_of kind
  pub places : place ≡ crc_place kind

pub has_kind : {b : ℕ} {kind : Kind} {step place : ℕ} → KindHas b kind step place → Known b kind step place
unfolding kind_of
has_kind legacy0 = record { found = refl; steps = refl; places = refl }
has_kind legacy1 = record { found = refl; steps = refl; places = refl }
has_kind production6 = record { found = refl; steps = refl; places = refl }
has_kind production7 = record { found = refl; steps = refl; places = refl }

pub kind_has : (b : ℕ) → is_unknown (kind_of b) ≡ false → KindHas b (kind_in (kind_of b)) (step_of (kind_in (kind_of b))) (crc_place (kind_in (kind_of b)))
unfolding kind_of is_unknown kind_in
kind_has b e =
    split (ltb b 2) (λ f. legacy (ltb-true b 2 f))
    (λ f. split (eqb b 6) (λ g. rw (eqb-true b 6 g) production6)
    (λ g. split (eqb b 7) (λ h. rw (eqb-true b 7 h) production7) (λ h. absurd (true≢false (simp (f, g, h) at e)))))
  where
    legacy : b < 2 → KindHas b (kind_in (kind_of b)) (step_of (kind_in (kind_of b))) (crc_place (kind_in (kind_of b)))
    legacy h =
        split (eqb b 0) (λ f. rw (eqb-true b 0 f) legacy0)
        (λ f. let one : b ≡ 1 = omega (arith, eqb-false b 0 f) in rw one legacy1)

-- ---- the count of lines

-- the quotient that is kept
kept : (n step : ℕ) → 1 ≤ cond (eqb (n % step) 12) (up_to8 (n / step)) 0 →
    (n % step ≡ 12) × (cond (eqb (n % step) 12) (up_to8 (n / step)) 0 ≡ n / step) × (n / step ≤ 8)
kept n step h =
    split (eqb (n % step) 12)
    (λ e. split (leb (n / step) 8) (λ f. (eqb-true _ _ e, rw (e, f), leb-true _ _ f))
    (λ f. absurd (let z : 1 ≤ 0 = rw (e, f) at h in let y : ⊥ = omega arith in y)))
    (λ e. absurd (let z : 1 ≤ 0 = rw e at h in let y : ⊥ = omega arith in y))

pub count_is : (kind : Kind) (n : ℕ) → 1 ≤ configs_of kind n → (n ≡ 12 + step_of kind * configs_of kind n) × (configs_of kind n ≤ 8)
unfolding configs_of
count_is Legacy n h = let k = kept n 337 h in (omega (arith, k.0, k.1), omega (arith, k.1, k.2))
count_is Production n h = let k = kept n 363 h in (omega (arith, k.0, k.1), omega (arith, k.1, k.2))

pub configs_is : (kind : Kind) (n k : ℕ) → k ≤ 8 → n ≡ 12 + step_of kind * k → configs_of kind n ≡ k
unfolding configs_of
configs_is Legacy n k h e =
    let r : n % 337 ≡ 12 = omega arith in
    let q : n / 337 ≡ k = omega arith in
    rw (r, q, le-leb k 8 h)
configs_is Production n k h e =
    let r : n % 363 ≡ 12 = omega arith in
    let q : n / 363 ≡ k = omega arith in
    rw (r, q, le-leb k 8 h)

-- so there are 13 lines or more
pub many_lines : (kind : Kind) (n k : ℕ) → 1 ≤ k → n ≡ 12 + step_of kind * k → 13 ≤ n
many_lines Legacy n k h e = omega arith
many_lines Production n k h e = omega arith

-- and the identifier line and the CRC line of each configuration are lines of the file
pub id_within : (kind : Kind) {n k N : ℕ} → n ≡ line_count kind k → N < k → (identifier_line kind (config_number N)).0 ≤ n
id_within kind e h = rw e ((inside kind _ _).id h)

pub crc_within : (kind : Kind) {n k N : ℕ} → n ≡ line_count kind k → N < k → (crc_line kind (config_number N)).0 ≤ n
crc_within kind e h = rw e ((inside kind _ _).crc h)

pub crc_some : (kind : Kind) (N : ℕ) → 1 ≤ step_of kind * N + crc_place kind
crc_some Legacy N = omega arith
crc_some Production N = omega arith
