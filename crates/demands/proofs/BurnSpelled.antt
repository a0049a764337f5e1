-- Counting the burn's bytes among requests tells whether the burn is one of them; and replies in form to the guide's requests are
-- what the bytes say. Assumes nothing.
use mathlib.Core.Path.{◌≡◌, refl, sym, ap, ◌∙◌}
use mathlib.Core.Logic.{⊎_elim}
use mathlib.Core.Bool.{Bool, true, false, cond}
use mathlib.Core.List.Memᴰ
use mathlib.Core.List.{List, [], ◌∷◌, ◌++◌, Memᴰ}
use Prim.Native.Nat.{ℕ, suc, ◌+◌, ◌≤◌}
use native.Mathlib.Omega.{arith}
use borrow.Author.Tests.{eq-eqb}
use Rattle.std.specs.Prelude.{Ok}
use Rattle.bus.specs.declared.Request.{Request}
use Rattle.bus.specs.Bus.{eight, framed, write_of, read_of}
use Rattle.bus.specs.InForm.{Made, write, register, block, Says, Means}
use Rattle.bus.proofs.FormMeans.{form_means}
use Rattle.guide.specs.declared.Words.{Words}
use Rattle.guide.specs.Plan.{Reply, Asked, requests, bare}
use Rattle.guide.specs.Matched.{asked_in, opening}
use Rattle.guide.specs.Guide.{write_lines_of, guide_for}
use Rattle.guide.specs.Requests.{line_request}
use Rattle.guide.specs.Statements.{same_bytes, spellings, AllInForm}
use Rattle.guide.specs.Statements as said
use Rattle.guide.proofs.Every.{every_request, Other, point, word, identity, revision, set, command, load, guide_every}
use Rattle.guide.proofs.LineBytes.{burning}
use Rattle.guide.proofs.MarksTell.{same_self}
use Rattle.demands.specs.Headline.{Answered, none, more}
use Rattle.guide.specs.Terms.{Terms}
use Rattle.summary.specs.declared.Summary.{Summary}

-- ---- the burn's bytes

module _ (burn : Request) where
  pub spellings-append : (a b : List Asked) → spellings burn (a ++ b) ≡ spellings burn a + spellings burn b
  unfolding spellings
  spellings-append [] b = omega arith
  spellings-append (q ∷ a) b = one (same_bytes q.request.bytes burn.bytes) (spellings-append a b)
    where
      one : (c : Bool) → spellings burn (a ++ b) ≡ spellings burn a + spellings burn b
          → cond c (suc (spellings burn (a ++ b))) (spellings burn (a ++ b)) ≡ cond c (suc (spellings burn a)) (spellings burn a) + spellings burn b
      one true e = omega arith
      one false e = e

  pub mem_spelled : (qs : List Asked) → Memᴰ burn (bare qs) → 1 ≤ spellings burn qs
  unfolding bare spellings
  mem_spelled [] m = absurd (Memᴰ.not-nil m)
  mem_spelled (q ∷ qs) m =
      ⊎_elim
      (λ (e : burn ≡ q.request). let s : same_bytes q.request.bytes burn.bytes ≡ true = rw (← e) (same_self burn.bytes) in rw s (omega arith))
      (λ n. one (same_bytes q.request.bytes burn.bytes) (mem_spelled qs n)) (Memᴰ.cases_cons m)
    where
      one : (c : Bool) → 1 ≤ spellings burn qs → 1 ≤ cond c (suc (spellings burn qs)) (spellings burn qs)
      one true h = omega arith
      one false h = h

  -- ---- the same of bare requests

  unfoldable spelt : List Request → ℕ
  spelt [] = 0
  spelt (q ∷ qs) = cond (same_bytes q.bytes burn.bytes) (suc (spelt qs)) (spelt qs)

  bare_spelt : (qs : List Asked) → spellings burn qs ≡ spelt (bare qs)
  unfolding spellings spelt bare
  bare_spelt [] = refl
  bare_spelt (q ∷ qs) = rw (bare_spelt qs)

  spelt_more : (a b : List Request) → spelt a ≤ spelt (a ++ b)
  unfolding spelt
  spelt_more [] b = omega arith
  spelt_more (q ∷ a) b = one (same_bytes q.bytes burn.bytes) (spelt_more a b)
    where
      one : (c : Bool) → spelt a ≤ spelt (a ++ b) → cond c (suc (spelt a)) (spelt a) ≤ cond c (suc (spelt (a ++ b))) (spelt (a ++ b))
      one true h = omega arith
      one false h = h

-- ---- those of steps 1 and 2 do not spell it, nor does a beginning of them

opening_spelt : (address : ℕ) (wanted : Bool) (captured : ℕ) (read : Words) → spelt (burning address) (asked_in (opening address wanted captured read)) ≡ 0
unfolding spelt asked_in opening write_of read_of framed eight same_bytes
opening_spelt address true captured read = rw (eq-eqb address address refl)
opening_spelt address false captured read = rw (eq-eqb address address refl)

pub opening_none : (address : ℕ) (qs : List Asked) (rest : List Request) (wanted : Bool) (captured : ℕ) (read : Words)
    → asked_in (opening address wanted captured read) ≡ bare qs ++ rest → spellings (burning address) qs ≡ 0
opening_none address qs rest wanted captured read e =
    let burn = burning address in
    let whole : spelt burn (bare qs ++ rest) ≡ 0 = ap (spelt burn) (sym e) ∙ opening_spelt address wanted captured read in
    omega (arith, bare_spelt burn qs, spelt_more burn (bare qs) rest)

-- ---- replies in form

pub said_in_form : (qs : List Asked) (rs : List Reply) → ((q : Asked) → Memᴰ q qs → Made q.request) → AllInForm qs rs → Answered (bare qs) rs
unfolding bare Says Means
said_in_form _ _ made (said.none rs) = none rs
said_in_form _ _ made (said.more q qs r rs w e f) =
    more q.request (bare qs) r rs w ((form_means (made q (Memᴰ.head refl)) r.kind r.bytes (Ok w)).0 e)
    (said_in_form qs rs (λ p m. made p (Memᴰ.tail m)) f)

-- every request of the guide is a write or a read
module _ (T : Terms) (file : Summary) (text : List ℕ) (rs : List Reply) where
  other_made : (q : Request) → Other T file q → Made q
  unfolding write_of
  other_made _ (point low high) = write _ _
  other_made _ word = register _
  other_made _ identity = block _ _
  other_made _ revision = block _ _
  other_made _ (set w) = write _ _
  other_made _ command = write _ _
  other_made _ (load N) = write _ _

  abbrev Known : Asked → Type 0
  Known q = Made q.request

  pub guide_made : (q : Asked) → Memᴰ q (requests (guide_for T file text) rs) → Made q.request
  unfolding guide_for write_lines_of line_request write_of
  guide_made q m = every_request {P = Known} (guide_every {P = Known} T file other_made _ (λ j h. write _ _)) rs q m
