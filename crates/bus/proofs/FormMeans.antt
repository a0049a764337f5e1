-- A reply is found to be what its bytes say: each reply to a request is one that some form speaks of, and `form_of` gives the form
-- that speaks of it. Assumes nothing.
use mathlib.Core.Path.{◌≡◌, refl, sym, ap, ◌∙◌}
use mathlib.Core.Logic.{inl, inr}
use mathlib.Core.Bool.{Bool, true, false, cond}
use mathlib.Core.List.{List, [], ◌∷◌}
use Prim.Native.Nat.{ℕ, zero, suc, ◌<◌}
use native.Mathlib.Omega.{arith}
use lib.Dec.{eqb}
use lib.ListN.{length}
use borrow.Author.Tests.{eq-eqb, ne_eqb, eqb-true, eqb-false, lt-ltb}
use Rattle.std.specs.Prelude.{Result, Ok, Err}
use Rattle.bus.specs.declared.Request.{Request}
use Rattle.bus.specs.declared.Misreply.{Misreply}
use Rattle.bus.specs.declared.Misreply.TheVariants.{Unanswered, Misshapen, Miscoded}
use Rattle.bus.specs.Bus.{eight, framed, read_of}
use Rattle.bus.specs.ReplyForm.{word_at, sealed_of, read_form, done_form, form_of}
use Rattle.bus.specs.InForm.{ask_word, ask_block, Made, write, register, block}
use Rattle.bus.specs.InForm.{register_pec, block_pec, spelled, InForm, wrote, register_read, block_read}
use Rattle.bus.specs.InForm.{WrongShape, write_bytes, register_bytes, block_bytes, block_count, WrongPec, register_code, block_code, Says, Means}
use Rattle.pec.specs.Pec.{pec_from}

-- ---- each kind gives its form

unanswered_is : (q : Request) (kind : ℕ) (rs : List ℕ) → kind ≡ 0 → form_of q kind rs ≡ Err Unanswered
unfolding form_of
unanswered_is q kind rs e = rw e

above_is : (q : Request) (kind : ℕ) (rs : List ℕ) → 1 < kind → form_of q kind rs ≡ Err Misshapen
unfolding form_of
above_is q kind rs h = rw (ne_eqb kind 0 (λ x. omega arith), lt-ltb 1 kind h)

pub good_is : {q : Request} {kind : ℕ} {rs : List ℕ} {w : ℕ} → InForm q kind rs w → form_of q kind rs ≡ Ok w
unfolding form_of done_form framed read_of eight read_form sealed_of word_at pec_from
good_is (wrote sent p) = refl
good_is (register_read address a b c d) =
    let p = register_pec address a b c d in
    let bs : List ℕ = a ∷ b ∷ c ∷ d ∷ p ∷ [] in
    let sealed : form_of (ask_word address) 1 bs ≡ cond (eqb p p) (Ok (word_at bs 0)) (Err Miscoded) = refl in
    sealed ∙ rw (eq-eqb p p refl) (ap Ok (omega arith))
good_is (block_read address command a b c d) =
    let p = block_pec address command a b c d in
    let bs : List ℕ = 4 ∷ a ∷ b ∷ c ∷ d ∷ p ∷ [] in
    let sealed : form_of (ask_block address command) 1 bs ≡ cond (eqb p p) (Ok (word_at bs 1)) (Err Miscoded) = refl in
    sealed ∙ rw (eq-eqb p p refl) (ap Ok (omega arith))

pub shape_is : {q : Request} {rs : List ℕ} → WrongShape q rs → form_of q 1 rs ≡ Err Misshapen
unfolding form_of done_form framed read_of eight read_form
shape_is (write_bytes sent p rs h) = rw (ne_eqb _ _ h)
shape_is (register_bytes address rs h) = rw (ne_eqb _ _ h)
shape_is (block_bytes address command rs h) = rw (ne_eqb _ _ h)
shape_is (block_count address command n rs e h) = rw (e, ne_eqb _ _ h)

code_is : {q : Request} {rs : List ℕ} → WrongPec q rs → form_of q 1 rs ≡ Err Miscoded
unfolding form_of done_form framed read_of eight read_form sealed_of pec_from
code_is (register_code address a b c d p h) = rw (ne_eqb _ _ (λ x. h (sym x)))
code_is (block_code address command a b c d p h) = rw (ne_eqb _ _ (λ x. h (sym x)))

pub says_is : (q : Request) (kind : ℕ) (rs : List ℕ) (x : Result ℕ Misreply) → Says q kind rs x → form_of q kind rs ≡ x
unfolding Says
says_is q kind rs (Err Unanswered) e = unanswered_is q kind rs e
says_is q kind rs (Err Misshapen) (inl h) = above_is q kind rs h
says_is q kind rs (Err Misshapen) (inr (e, h)) = rw e (shape_is h)
says_is q kind rs (Err Miscoded) (e, h) = rw e (code_is h)
says_is q kind rs (Ok w) h = good_is h

-- ---- each reply is of one kind

abbrev Found : Request → ℕ → List ℕ → Type 0
Found q kind rs = (x : Result ℕ Misreply) × Says q kind rs x

-- five bytes, or another count of them
five : (P : List ℕ → Type 0) (rs : List ℕ) → ((length rs ≡ 5 → ⊥) → P rs) → ((a b c d p : ℕ) → P (a ∷ b ∷ c ∷ d ∷ p ∷ [])) → P rs
five P [] other exact = other (λ e. omega arith)
five P (a ∷ []) other exact = other (λ e. omega arith)
five P (a ∷ b ∷ []) other exact = other (λ e. omega arith)
five P (a ∷ b ∷ c ∷ []) other exact = other (λ e. omega arith)
five P (a ∷ b ∷ c ∷ d ∷ []) other exact = other (λ e. omega arith)
five P (a ∷ b ∷ c ∷ d ∷ p ∷ []) other exact = exact a b c d p
five P (a ∷ b ∷ c ∷ d ∷ p ∷ x ∷ rs) other exact = other (λ e. omega arith)

register_found : (address a b c d p : ℕ) (t : Bool) → eqb p (register_pec address a b c d) ≡ t → Found (ask_word address) 1 (a ∷ b ∷ c ∷ d ∷ p ∷ [])
unfolding Says
register_found address a b c d p true e = rw (eqb-true p (register_pec address a b c d) e) (Ok (spelled a b c d), register_read address a b c d)
register_found address a b c d p false e = (Err Miscoded, (refl, register_code address a b c d p (eqb-false _ _ e)))

block_found : (address command a b c d p : ℕ) (t : Bool) → eqb p (block_pec address command a b c d) ≡ t → Found (ask_block address command) 1 (4 ∷ a ∷ b ∷ c ∷ d ∷ p ∷ [])
unfolding Says
block_found address command a b c d p true e = rw (eqb-true p (block_pec address command a b c d) e) (Ok (spelled a b c d), block_read address command a b c d)
block_found address command a b c d p false e = (Err Miscoded, (refl, block_code address command a b c d p (eqb-false _ _ e)))

count_found : (address command n a b c d p : ℕ) (t : Bool) → eqb n 4 ≡ t → Found (ask_block address command) 1 (n ∷ a ∷ b ∷ c ∷ d ∷ p ∷ [])
unfolding Says
count_found address command n a b c d p true e = rw (eqb-true n 4 e) (block_found address command a b c d p (eqb p (block_pec address command a b c d)) refl)
count_found address command n a b c d p false e = (Err Misshapen, inr (refl, block_count address command n _ refl (eqb-false _ _ e)))

done_found : {q : Request} → Made q → (rs : List ℕ) → Found q 1 rs
unfolding Says
done_found (write sent p) [] = (Ok 0, wrote sent p)
done_found (write sent p) (r ∷ rs) = (Err Misshapen, inr (refl, write_bytes sent p (r ∷ rs) (λ e. omega arith)))
done_found (register address) rs =
    five (Found (ask_word address) 1) rs (λ h. (Err Misshapen, inr (refl, register_bytes address rs h)))
    (λ a b c d p. register_found address a b c d p (eqb p (register_pec address a b c d)) refl)
done_found (block address command) [] = (Err Misshapen, inr (refl, block_bytes address command [] (λ e. omega arith)))
done_found (block address command) (n ∷ rs) =
    five (λ rs. Found (ask_block address command) 1 (n ∷ rs)) rs (λ h. (Err Misshapen, inr (refl, block_bytes address command (n ∷ rs) (λ e. h (omega arith)))))
    (λ a b c d p. count_found address command n a b c d p (eqb n 4) refl)

found : {q : Request} → Made q → (kind : ℕ) (rs : List ℕ) → Found q kind rs
unfolding Says
found m zero rs = (Err Unanswered, refl)
found m (suc zero) rs = done_found m rs
found m (suc (suc n)) rs = (Err Misshapen, inl (omega arith))

pub form_means : {q : Request} → Made q → Means q
unfolding Means
form_means {q} m kind rs x = (λ e. rw (sym told ∙ e) at f.1, says_is q kind rs x)
  where
    f : Found q kind rs
    f = found m kind rs

    told : form_of q kind rs ≡ f.0
    told = says_is q kind rs f.0 f.1
