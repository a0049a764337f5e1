-- The front grows by what one read gave, which the stream no longer holds. Assumes nothing.
use Rattle.std.proofs.Common.{◌≡◌, ℕ, ◌+◌, ◌-◌, ◌≤◌, List, ◌++◌, length, take, drop, ap, sym, subst, ◌∙◌, le_refl, drop_at, length-take-le, rules}
use Rattle.std.proofs.lemmas.Slice.{take-put_mid_below}
use Rattle.std.specs.Io.KnownBytes.{Consumes}
use Rattle.std.proofs.KnownBytes.{Consumes-trans}
use borrow.Rule.Slice.PartMut.{put_mid, post_of}
use lib.Seq.{take-add, take-append-le}
use Rattle.streams.proofs.fill.Goals as goal

-- a list of which a part was written anew: its front, and the beginning of what was written
front_grown : (a k n : ℕ) (xs ys : List ℕ) → a ≤ length xs → n ≤ length ys → take a xs ++ take n ys ≡ take (a + n) (put_mid a k xs ys)
front_grown a k n xs ys within fits =
    let behind = drop_at (take a xs) (ys ++ post_of a k xs) a (length-take-le a xs within) in
    let written = ap (take n) behind ∙ take-append-le n ys (post_of a k xs) fits in
    ap (λ l. take a xs ++ l) (sym written)
    ∙ ap (λ l. l ++ take n (drop a (put_mid a k xs ys))) (sym (take-put_mid_below _ _ _ _ _ (le_refl _) within))
    ∙ sym (take-add a n (put_mid a k xs ys))

pub loop-done-preserved : goal.loop-done-preserved
loop-done-preserved g c =
    let within = c.loop-done.invariant.0 in
    let grown = front_grown c.loop-done.done (length c.loop-done.space - c.loop-done.done) c.in-Ok.n c.loop-done.space c.read.new.buf within c.in-Ok.ensures.bound.0 in
    (search rules, subst (Consumes _ _) grown (Consumes-trans _ _ _ _ _ c.loop-done.invariant.1 c.in-Ok.ensures.bytes.0))
