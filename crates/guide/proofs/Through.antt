-- Replies that answer some exchanges, one part behind the other; and a path through a plan along such exchanges: what it asks, where it
-- arrives, and what the rest then gives. Assumes nothing.
use mathlib.Core.Path.{◌≡◌, refl, ap, ◌∙◌}
use mathlib.Core.List.{List, [], ◌∷◌, ◌++◌}
use Prim.Native.Nat.{ℕ}
use Rattle.std.specs.Prelude.{Result}
use Rattle.bus.specs.declared.Request.{Request}
use Rattle.bus.specs.declared.Misreply.{Misreply}
use Rattle.bus.proofs.FormMeans.{good_is}
use Rattle.guide.specs.Plan.{Reply, Mark, Asked, Plan, requests, verdict, bare}
use Rattle.guide.specs.Guide.{hear, put}
use Rattle.guide.specs.Matched.{Exchange, got, Heard, none, more, asked_in}
use Rattle.guide.specs.Statements.{AllInForm}
use Rattle.guide.specs.Statements as said

-- ---- replies

pub heard_both : {xs ys : List Exchange} {rs mid left : List Reply} → Heard xs rs mid → Heard ys mid left → Heard (xs ++ ys) rs left
heard_both (none _) h = h
heard_both (more x xs r rs left i g) h = more x _ r rs _ i (heard_both g h)

pub heard_split : (xs : List Exchange) {ys : List Exchange} {rs left : List Reply} → Heard (xs ++ ys) rs left
    → (mid : List Reply) × Heard xs rs mid × Heard ys mid left
heard_split [] h = (_, none _, h)
heard_split (x ∷ xs) (more _ _ r rs left i h) = let b = heard_split xs h in (b.0, more x xs r rs b.0 i b.1, b.2)

-- ---- paths

abbrev pub asked : Mark → Request → Asked
asked m q = record { mark = m; request = q }

-- from a plan to a plan, where these exchanges are made
pub data Leads : Plan → List Exchange → Plan → Type 0 where
  arrived : {p : Plan} → Leads p [] p
  on : {m : Mark} {q : Request} (next : ℕ → Plan) {w : ℕ} {xs : List Exchange} {p : Plan} → Leads (next w) xs p
      → Leads (put m q next) (got q w ∷ xs) p

unfoldable pub asks_of : {p p' : Plan} {xs : List Exchange} → Leads p xs p' → List Asked
asks_of arrived = []
asks_of (on {m} {q} next l) = asked m q ∷ asks_of l

pub asks_are : {p p' : Plan} {xs : List Exchange} (l : Leads p xs p') → bare (asks_of l) ≡ asked_in xs
unfolding bare asks_of asked_in
asks_are arrived = refl
asks_are (on {m} {q} next l) = ap (λ (qs : List Request). q ∷ qs) (asks_are l)

pub both : {p p' p'' : Plan} {xs ys : List Exchange} → Leads p xs p' → Leads p' ys p'' → Leads p (xs ++ ys) p''
both arrived k = k
both (on next l) k = on next (both l k)

module _ {p' : Plan} {left : List Reply} where
  pub leads_verdict : {p : Plan} {xs : List Exchange} {rs : List Reply} → Leads p xs p' → Heard xs rs left → verdict p rs ≡ verdict p' left
  unfolding verdict hear
  leads_verdict arrived (none _) = refl
  leads_verdict (on next l) (more _ _ r rest _ i h) = ap (λ (f : Result ℕ Misreply). verdict (hear f next) rest) (good_is i) ∙ leads_verdict l h

  pub leads_requests : {p : Plan} {xs : List Exchange} {rs : List Reply} (l : Leads p xs p') → Heard xs rs left
      → requests p rs ≡ asks_of l ++ requests p' left
  unfolding requests hear asks_of
  leads_requests arrived (none _) = refl
  leads_requests (on {m} {q} next l) (more _ _ r rest _ i h) = rw (good_is i) (ap (λ (qs : List Asked). asked m q ∷ qs) (leads_requests l h))

  pub form_behind : {p : Plan} {xs : List Exchange} {rs : List Reply} {qs : List Asked} (l : Leads p xs p') → Heard xs rs left
      → AllInForm (asks_of l ++ qs) rs → AllInForm qs left
  unfolding asks_of
  form_behind arrived (none _) f = f
  form_behind (on next l) (more _ _ r rest _ i h) (said.more _ _ _ _ _ _ f) = form_behind l h f

  pub form_before : {p : Plan} {xs : List Exchange} {rs : List Reply} {qs : List Asked} (l : Leads p xs p') → Heard xs rs left → AllInForm qs left
      → AllInForm (asks_of l ++ qs) rs
  unfolding asks_of
  form_before arrived (none _) f = f
  form_before (on next l) (more _ _ r rest _ i h) f = said.more _ _ r rest _ (good_is i) (form_before l h f)
