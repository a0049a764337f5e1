-- What is put into a buffer and written from there, and one reply more of a run. Assumes nothing.
use mathlib.Core.Path.{◌≡◌, refl, sym, ◌∙◌}
use mathlib.Core.List.{List, ◌++◌}
use Prim.Native.Nat.{ℕ, zero, suc, ◌+◌, ◌≤◌}
use native.Mathlib.Omega.{arith}
use lib.Dec.{leb}
use lib.ListN.{length, take, drop}
use borrow.Author.Tests.{leb-false}
use lib.Seq.{take_at}
use Rattle.std.specs.Prelude.{Option, Some, None, Result, Ok, Err, OnOk}
use Rattle.std.specs.Result.{result_and}
use Rattle.std.specs.Io.KnownBytes.{Appends}
use Rattle.std.proofs.KnownBytes.{Appends-trans}
use Rattle.promise.proofs.Basics.{split}
use Rattle.session.specs.declared.Handed.{Handed}
use Rattle.session.specs.Reply.{reply_of}
use Rattle.tape.specs.declared.Reply.{Reply}
use Rattle.tape.specs.declared.CutShort.{CutShort}
use Rattle.tape.specs.Replies.{between, found_at}
use Rattle.tape.proofs.Whole.{found_within}
use Rattle.text.specs.Text.{Puts}
use Rattle.text.proofs.Laws.{behind_fits, put_fits}
use Rattle.dryrun.specs.Run.{request_lines, end_lines, lines_by, lines_from}

pub put_taken : {before bs after : List ℕ} {next : ℕ} → Puts before 0 bs after next → length bs ≤ length before → take next after ≡ bs
put_taken {before} {bs} {after} {next} p room =
    let fits : 0 + length bs ≤ length before = omega arith in
    let none : 0 + length bs ≡ length bs = omega arith in
    let here : next ≡ length bs = p.place ∙ behind_fits before 0 bs fits ∙ none in
    let is : after ≡ bs ++ drop (0 + length bs) before = p.content ∙ put_fits before 0 bs fits in
    rw (is, here) (take_at bs (drop (0 + length bs) before) (length bs) refl)

-- where there is nothing more the run ends
none_from : (most : ℕ) (text s : List ℕ) (at : ℕ) (h : Handed) → length s ≤ at → lines_from most text s at h ≡ end_lines h
unfolding lines_from lines_by found_at
none_from zero text s at h e = refl
none_from (suc most) text s at h e = split (leb (length s) at) (λ t. rw t) (λ t. absurd (let no : ⊥ = omega (arith, leb-false (length s) at t) in no))

-- any number that is enough is as good as another
enough : (a b : ℕ) (text s : List ℕ) (at : ℕ) (h : Handed) → length s ≤ a + at → length s ≤ b + at → lines_from a text s at h ≡ lines_from b text s at h
unfolding lines_from lines_by
enough zero b text s at h i j = sym (none_from b text s at h (omega arith))
enough (suc a) zero text s at h i j = none_from (suc a) text s at h (omega arith)
enough (suc a) (suc b) text s at h i j = on (found_at s at) refl (λ end next. enough a b text s end next)
  where
    on : (found : Result (Option Reply) CutShort) → found_at s at ≡ found
        → ((end : ℕ) (next : Handed) → length s ≤ a + end → length s ≤ b + end → lines_from a text s end next ≡ lines_from b text s end next)
        → lines_by text s h found (lines_from a text s) ≡ lines_by text s h found (lines_from b text s)
    on (Ok None) e further = refl
    on (Ok (Some reply)) e further =
        let lies = found_within s at reply e in
        let next = reply_of text h.session reply.kind (between s reply.start reply.end) in
        rw (further reply.end next (omega arith) (omega arith))
    on (Err cut) e further = refl

pub run_step : (text s : List ℕ) (at : ℕ) (h : Handed)
    → lines_from (length s) text s at h ≡ lines_by text s h (found_at s at) (lines_from (length s) text s)
unfolding lines_from
run_step text s at h = enough (length s) (suc (length s)) text s at h (omega arith) (omega arith)

-- a reply that stands there is one call more
pub reply_more : (a b whole : Option (List ℕ)) (text s t : List ℕ) (at kind end : ℕ) (h next : Handed) (bytes : List ℕ)
    → t ≡ s
    → found_at s at ≡ Ok (Some (record { kind = kind; start = at + 2; end = end }))
    → bytes ≡ between s (at + 2) end
    → next ≡ reply_of text h.session kind bytes
    → Appends a b (request_lines next.request)
    → Appends b whole (lines_from (length t) text t end next)
    → Appends a whole (lines_from (length s) text s at h)
unfolding lines_by
reply_more a b whole text s t at kind end h next bytes same found lent called asked others =
    let n : next ≡ reply_of text h.session kind (between s (at + 2) end) = cc in
    rw (run_step text s at h, found, ← n) (Appends-trans a b whole _ _ asked (rw same at others))

-- where none stands there are none more
pub none_more : (text s : List ℕ) (at : ℕ) (h : Handed) → found_at s at ≡ Ok None → lines_from (length s) text s at h ≡ end_lines h
unfolding lines_by
none_more text s at h found = rw (run_step text s at h, found)

pub part_more : (text s : List ℕ) (at : ℕ) (h : Handed) (cut : CutShort) → found_at s at ≡ Err cut → lines_from (length s) text s at h ≡ end_lines h
unfolding lines_by
part_more text s at h cut found = rw (run_step text s at h, found)

-- what holds where a call went well
pub on_ok : {P Q E : Type 0} (r : Result (Unit {0}) E) → OnOk r P → (P → Q) → OnOk r Q
on_ok (Ok x) p f = f p
on_ok (Err e) p f = tt

-- two calls, each of which was made whatever the other came to, went well where both did
pub and_ok : {P Q R E : Type 0} (r s : Result (Unit {0}) E) → OnOk r P → OnOk s Q → (P → Q → R) → OnOk (result_and r s) R
and_ok (Ok x) s p q f = on_ok s q (f p)
and_ok (Err e) s p q f = tt
