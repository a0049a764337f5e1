-- Step 3 puts the burn out once where every write line before it was answered in form, and otherwise never; no other step puts out
-- a write line. Assumes nothing.
use mathlib.Core.Path.{◌≡◌, refl, ap}
use mathlib.Core.Bool.{false, cond}
use mathlib.Core.List.{List, [], ◌∷◌, ◌++◌, append-nil}
use Prim.Native.Nat.{ℕ, suc, ◌+◌, ◌≤◌}
use native.Mathlib.Omega.{arith}
use lib.ListN.{length}
use borrow.Author.Tests.{eq-eqb, ne_eqb}
use Rattle.std.specs.Prelude.{Result, Ok, Err}
use Rattle.line.specs.declared.Line.{Line}
use Rattle.summary.specs.declared.Summary.{Summary}
use Rattle.bus.specs.declared.Request.{Request}
use Rattle.bus.specs.declared.Misreply.{Misreply}
use Rattle.bus.specs.ReplyForm.{form_of}
use Rattle.guide.specs.Plan.{Reply, Mark, other, file_line, Asked, Plan, requests}
use Rattle.guide.specs.Requests.{line_request}
use Rattle.guide.specs.Guide.{hear, put, lines}
use Rattle.guide.specs.Statements.{is_line, lines_in, is_burn_mark, burns_in, before_burn, AllInForm, more}
use Rattle.guide.proofs.Every.{Every, asks, ends, behind, behind_every}
use Rattle.guide.specs.Terms.{Terms}

-- ---- plans and lists without write lines

pub plain_lines : {most : ℕ} {p : Plan} → Every (λ q. is_line q.mark ≡ false) most p → (rs : List Reply) → lines_in (requests p rs) ≡ []
unfolding requests lines_in
plain_lines (asks e f) [] = rw e
plain_lines (asks e f) (r ∷ rs) = rw e (plain_lines (f r) rs)
plain_lines ends rs = refl

pub behind_plain : (T : Terms) (file : Summary) (rs : List Reply) → lines_in (requests (behind T file) rs) ≡ []
unfolding is_line
behind_plain T file rs = plain_lines (behind_every T file (λ q o. refl)) rs

no_line_lem : {A : Type 0} {q : Asked} {qs : List Asked} → q ∷ qs ≡ [] → A
no_line_lem e = let z : ◌≡◌ {A = ℕ} 0 1 = cc in absurd (let y : ⊥ = omega arith in y)

module _ (n : ℕ) where
  pub burns_behind : (qs later : List Asked) → lines_in qs ≡ [] → burns_in n (qs ++ later) ≡ burns_in n later
  unfolding lines_in burns_in is_line is_burn_mark
  burns_behind [] later e = refl
  burns_behind (q ∷ qs) later e = go q.mark (burns_behind qs later) e
    where
      go : (m : Mark) → (lines_in qs ≡ [] → burns_in n (qs ++ later) ≡ burns_in n later) → cond (is_line m) (q ∷ lines_in qs) (lines_in qs) ≡ []
          → cond (is_burn_mark n m) (suc (burns_in n (qs ++ later))) (burns_in n (qs ++ later)) ≡ burns_in n later
      go other f e = f e
      go (file_line i) f e = no_line_lem e

  pub before_behind : (qs later : List Asked) → lines_in qs ≡ [] → before_burn n (qs ++ later) ≡ qs ++ before_burn n later
  unfolding lines_in before_burn is_line is_burn_mark
  before_behind [] later e = refl
  before_behind (q ∷ qs) later e = go q.mark (before_behind qs later) e
    where
      go : (m : Mark) → (lines_in qs ≡ [] → before_burn n (qs ++ later) ≡ qs ++ before_burn n later) → cond (is_line m) (q ∷ lines_in qs) (lines_in qs) ≡ []
          → cond (is_burn_mark n m) [] (q ∷ before_burn n (qs ++ later)) ≡ q ∷ (qs ++ before_burn n later)
      go other f e = ap (λ (l : List Asked). q ∷ l) (f e)
      go (file_line i) f e = no_line_lem e

  pub no_burns : (qs : List Asked) → lines_in qs ≡ [] → burns_in n qs ≡ 0
  unfolding burns_in
  no_burns qs e = rw append-nil at (burns_behind qs [] e)

-- ---- a request that is not the burn, before a plan

no_form : {A : Type 0} {q : Asked} {qs : List Asked} → AllInForm (q ∷ qs) [] → A
no_form f = elim f [ ]

form_on : {q : Asked} {qs : List Asked} {r : Reply} {rs : List Reply} → AllInForm (q ∷ qs) (r ∷ rs)
    → (w : ℕ) × (form_of q.request r.kind r.bytes ≡ Ok w) × AllInForm qs rs
form_on (more _ _ _ _ w e f) = (w, e, f)

module _ (n : ℕ) (m : Mark) (q : Request) (p : Plan) (unlike : is_burn_mark n m ≡ false) where
  once_on : (rs : List Reply)
      → ((last : List Reply) → AllInForm (before_burn n (requests p last)) last → burns_in n (requests p last) ≡ 1)
      → AllInForm (before_burn n (requests (put m q (λ _. p)) rs)) rs → burns_in n (requests (put m q (λ _. p)) rs) ≡ 1
  unfolding requests burns_in before_burn hear
  once_on [] go f = no_form (rw unlike at f)
  once_on (r ∷ rs) go f =
      let g = form_on (rw unlike at f) in
      rw (unlike, g.1) (go rs (rw g.1 at g.2))

-- ---- step 3, from line i on, before a rest without write lines

module _ (n address : ℕ) (rest : Plan) (plain : (rs : List Reply) → burns_in n (requests rest rs) ≡ 0) where
  heard_none : (h : Result ℕ Misreply) (rs : List Reply) → burns_in n (requests (hear h (λ _. rest)) rs) ≡ 0
  unfolding hear requests burns_in
  heard_none (Err m) rs = refl
  heard_none (Ok w) rs = plain rs

  abbrev out : ℕ → List Line → List Reply → List Asked
  out i ls rs = requests (lines address i ls rest) rs

  pub lines_once : (i : ℕ) (ls : List Line) (rs : List Reply) → 1 ≤ length ls → i + length ls ≡ n + 1 → AllInForm (before_burn n (out i ls rs)) rs
      → burns_in n (out i ls rs) ≡ 1
  unfolding lines requests burns_in before_burn is_burn_mark hear
  lines_once i [] rs h e f = absurd (let y : ⊥ = omega arith in y)
  lines_once i (l ∷ []) [] h e f = rw (eq-eqb i n (omega arith))
  lines_once i (l ∷ []) (r ∷ rs) h e f = rw (eq-eqb i n (omega arith)) (ap suc (heard_none (form_of (line_request address l) r.kind r.bytes) rs))
  lines_once i (l ∷ l2 ∷ ls) rs h e f =
      once_on n (file_line i) (line_request address l) (lines address (i + 1) (l2 ∷ ls) rest) (ne_eqb i n (omega arith)) rs
      (λ last g. lines_once (i + 1) (l2 ∷ ls) last (omega arith) (omega arith) g) f
