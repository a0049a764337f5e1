-- A number is found in a list exactly where it stands there. Assumes nothing.
use Prim.Native.Nat.{ℕ}
use mathlib.Core.Path.{◌≡◌}
use mathlib.Core.Bool.{true, false≢true}
use mathlib.Core.List.{List, [], ◌∷◌, Memᴰ}
use lib.Dec.{eqb}
use borrow.Author.Tests.{eqb-true, eq-eqb}
use Rattle.promise.specs.Lists.{is_in}
use Rattle.promise.proofs.Basics.{split}

pub in_list : (b : ℕ) (xs : List ℕ) → is_in b xs ≡ true → Memᴰ b xs
unfolding is_in
in_list b [] e = absurd (false≢true e)
in_list b (x ∷ xs) e = split (eqb b x) (λ h. Memᴰ.head (eqb-true b x h)) (λ h. Memᴰ.tail (in_list b xs (simp h at e)))

pub list_in : {b : ℕ} {xs : List ℕ} → Memᴰ b xs → is_in b xs ≡ true
unfolding is_in
list_in {b} (Memᴰ.head {x} {xs} e) = rw (eq-eqb b x e)
list_in {b} (Memᴰ.tail {x} {xs} m) = split (eqb b x) (λ h. rw h) (λ h. rw h (list_in m))
