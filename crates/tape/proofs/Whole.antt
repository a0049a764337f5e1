-- Where a reply that is there lies, and one more of those that are whole. Assumes nothing.
use mathlib.Core.Path.{◌≡◌, refl, sym}
use mathlib.Core.List.{List}
use mathlib.Core.Bool.{true}
use Prim.Native.Nat.{ℕ, zero, suc, ◌+◌, ◌-◌, ◌≤◌, ◌<◌}
use native.Mathlib.Omega.{arith}
use lib.Dec.{ltb, leb}
use lib.ListN.{length}
use borrow.Author.Tests.{ltb-false, leb-false}
use Rattle.std.specs.Prelude.{Option, Some, None, Result, Ok, Err}
use Rattle.promise.proofs.Basics.{split}
use Rattle.tape.specs.declared.Reply.{Reply}
use Rattle.tape.specs.declared.CutShort.{CutShort}
use Rattle.tape.specs.Replies.{found_at, whole_by, whole_replies, byte, part}

pub record Lies (s : List ℕ) (at start end : ℕ) : Type 0 where
  pub behind : start ≡ at + 2
  pub ordered : start ≤ end
  pub inside : end ≤ length s

pub found_within : (s : List ℕ) (at : ℕ) (reply : Reply) → found_at s at ≡ Ok (Some reply) → Lies s at reply.start reply.end
unfolding found_at
found_within s at reply e =
    split (leb (length s) at) (λ t. let z : ◌≡◌ {A = Result (Option Reply) CutShort} (Ok None) (Ok (Some reply)) = rw t at e in absurd cc)
    (λ t. split (ltb (length s - at) 2) (λ u. let z : part ≡ Ok (Some reply) = rw (t, u) at e in absurd cc)
    (λ u. split (ltb (length s - at - 2) (byte s (at + 1))) (λ v. let z : part ≡ Ok (Some reply) = rw (t, u, v) at e in absurd cc)
    (λ v.
    let z : Ok (Some (record { kind = byte s at; start = at + 2; end = at + 2 + byte s (at + 1) })) ≡ Ok (Some reply) = rw (t, u, v) at e in
    let a : at + 2 ≡ reply.start = cc in
    let b : at + 2 + byte s (at + 1) ≡ reply.end = cc in
    record {
      behind = omega arith;
      ordered = omega arith;
      inside = omega (arith, leb-false (length s) at t, ltb-false (length s - at) 2 u, ltb-false (length s - at - 2) (byte s (at + 1)) v);
    })))

-- a part of a reply is no end
pub part_inside : (s : List ℕ) (at : ℕ) (cut : CutShort) → found_at s at ≡ Err cut → at < length s
unfolding found_at
part_inside s at cut e =
    split (leb (length s) at) (λ t. let z : ◌≡◌ {A = Result (Option Reply) CutShort} (Ok None) (Err cut) = rw t at e in absurd cc)
    (λ t. omega (arith, leb-false (length s) at t))

-- where there is nothing more all are whole
none_whole : (most : ℕ) (s : List ℕ) (at : ℕ) → length s ≤ at → whole_replies most s at ≡ true
unfolding whole_replies whole_by found_at
none_whole zero s at h = refl
none_whole (suc most) s at h = split (leb (length s) at) (λ t. rw t) (λ t. absurd (let no : ⊥ = omega (arith, leb-false (length s) at t) in no))

-- any number that is enough is as good as another
enough : (a b : ℕ) (s : List ℕ) (at : ℕ) → length s ≤ a + at → length s ≤ b + at → whole_replies a s at ≡ whole_replies b s at
unfolding whole_replies whole_by
enough zero b s at h k = sym (none_whole b s at (omega arith))
enough (suc a) zero s at h k = none_whole (suc a) s at (omega arith)
enough (suc a) (suc b) s at h k = on (found_at s at) refl (λ end. enough a b s end)
  where
    on : (found : Result (Option Reply) CutShort) → found_at s at ≡ found
        → ((end : ℕ) → length s ≤ a + end → length s ≤ b + end → whole_replies a s end ≡ whole_replies b s end)
        → whole_by found (whole_replies a s) ≡ whole_by found (whole_replies b s)
    on (Ok None) e further = refl
    on (Ok (Some reply)) e further = let lies = found_within s at reply e in further reply.end (omega arith) (omega arith)
    on (Err cut) e further = refl

pub whole_step : (left : ℕ) (s : List ℕ) (at : ℕ) → 0 < left → whole_replies left s at ≡ whole_by (found_at s at) (whole_replies (left - 1) s)
unfolding whole_replies
whole_step zero s at h = absurd (let no : ⊥ = omega arith in no)
whole_step (suc left) s at h = let e : suc left - 1 ≡ left = omega arith in rw e

-- as many replies as the input has bytes are enough at each turn
pub whole_turn : (s : List ℕ) (at : ℕ) → whole_replies (length s) s at ≡ whole_by (found_at s at) (whole_replies (length s) s)
unfolding whole_replies
whole_turn s at = enough (length s) (suc (length s)) s at (omega arith) (omega arith)
