-- The file of an input that is whole lies within it, and so does the one in front. Assumes nothing.
use mathlib.Core.Path.{◌≡◌, refl, sym}
use mathlib.Core.Bool.{cond}
use mathlib.Core.List.{List}
use Prim.Native.Nat.{ℕ, ◌+◌, ◌-◌, ◌≤◌}
use native.Mathlib.Omega.{arith}
use lib.Dec.{ltb}
use lib.ListN.{length}
use borrow.Author.Tests.{ltb-false}
use Rattle.std.specs.Prelude.{Result, Ok, Err}
use Rattle.promise.proofs.Basics.{split}
use Rattle.dryrun.specs.declared.Header.{Header}
use Rattle.dryrun.specs.declared.Unfit.{Unfit}
use Rattle.dryrun.specs.declared.Unfit.TheVariants.{CutShort, TooLong}
use Rattle.tape.specs.Replies.{whole_replies}
use Rattle.dryrun.specs.Parts.{length_at, file_at, file_length, settings_of, header_of, behind_of, front_of, input_of}

-- an input of which the place behind its file is found: the replies are looked at
unfoldable pub run_of : List ℕ → Result ℕ Unfit → Result Header Unfit
run_of s (Err unfit) = Err unfit
run_of s (Ok behind) =
    cond (ltb 200000 (length s - behind)) (Err TooLong)
    (cond (whole_replies (length s) s behind) (Ok (record { settings = settings_of s; behind = behind })) (Err CutShort))

pub input_right : (s : List ℕ) → input_of s ≡ run_of s (behind_of s 6)
unfolding input_of run_of behind_of header_of
input_right s =
    split (ltb (length s) file_at) (λ t. rw t)
    (λ t. split (ltb 65600 (file_length s)) (λ u. rw (t, u))
    (λ u. split (ltb (length s) (file_at + file_length s)) (λ v. rw (t, u, v))
    (λ v. let e : length s - file_at - file_length s ≡ length s - (file_at + file_length s) = omega arith in rw (t, u, v, e))))

pub record Lies (s : List ℕ) (at behind : ℕ) : Type 0 where
  pub start : at + 4 ≤ behind
  pub inside : behind ≤ length s

pub behind_within : (s : List ℕ) (at behind : ℕ) → behind_of s at ≡ Ok behind → Lies s at behind
unfolding behind_of
behind_within s at behind e =
    split (ltb (length s) (at + 4)) (λ t. let z : ◌≡◌ {A = Result ℕ Unfit} (Err CutShort) (Ok behind) = rw t at e in absurd cc)
    (λ t. split (ltb 65600 (length_at s at)) (λ u. let z : ◌≡◌ {A = Result ℕ Unfit} (Err TooLong) (Ok behind) = rw (t, u) at e in absurd cc)
    (λ u. split (ltb (length s) (at + 4 + length_at s at)) (λ v. let z : ◌≡◌ {A = Result ℕ Unfit} (Err CutShort) (Ok behind) = rw (t, u, v) at e in absurd cc)
    (λ v.
    let z : ◌≡◌ {A = Result ℕ Unfit} (Ok (at + 4 + length_at s at)) (Ok behind) = rw (t, u, v) at e in
    let same : at + 4 + length_at s at ≡ behind = cc in
    record { start = omega arith; inside = omega (arith, ltb-false (length s) (at + 4 + length_at s at) v) })))

pub header_within : (s : List ℕ) (h : Header) → input_of s ≡ Ok h → Lies s 6 h.behind
unfolding run_of
header_within s h e = within (behind_of s 6) refl (rw (input_right s) at e)
  where
    within : (found : Result ℕ Unfit) → behind_of s 6 ≡ found → run_of s found ≡ Ok h → Lies s 6 h.behind
    within (Err unfit) b r = absurd cc
    within (Ok behind) b r =
        split (ltb 200000 (length s - behind)) (λ t. let z : ◌≡◌ {A = Result Header Unfit} (Err TooLong) (Ok h) = rw t at r in absurd cc)
        (λ t. split (whole_replies (length s) s behind)
        (λ u.
        let z : ◌≡◌ {A = Result Header Unfit} (Ok (record { settings = settings_of s; behind = behind })) (Ok h) = rw (t, u) at r in
        let same : record { settings = settings_of s; behind = behind } ≡ h = cc in
        rw (sym same) (behind_within s 6 behind b))
        (λ u. let z : ◌≡◌ {A = Result Header Unfit} (Err CutShort) (Ok h) = rw (t, u) at r in absurd cc))

pub front_within : (s : List ℕ) (behind : ℕ) → front_of s ≡ Ok behind → Lies s 0 behind
unfolding front_of
front_within s behind e = behind_within s 0 behind e
