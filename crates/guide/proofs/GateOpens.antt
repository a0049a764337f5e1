-- Where they matched, step 3 begins behind exactly the requests of steps 1 and 2, and the first write line is next. Assumes nothing.
use mathlib.Core.Path.{◌≡◌, refl, ap, ◌∙◌}
use mathlib.Core.List.{List, [], ◌∷◌, ◌++◌}
use Prim.Native.Nat.{◌≤◌}
use native.Mathlib.Omega.{arith}
use lib.ListN.{length}
use Rattle.line.specs.declared.Line.{Line}
use Rattle.summary.specs.declared.Summary.{Summary}
use Rattle.std.specs.Prelude.{Result}
use Rattle.guide.specs.declared.Reason.{Reason}
use Rattle.guide.specs.Plan.{Reply, Asked, Plan, requests, bare}
use Rattle.guide.specs.Guide.{gate, lines, guide, target_of}
use Rattle.guide.specs.Matched.{opening, Matched, asked_in}
use Rattle.guide.specs.Statements.{lines_in, line_asked, AllInForm}
use Rattle.guide.proofs.JudgedExactly.{judged_exactly}
use Rattle.guide.proofs.Through.{asks_of, asks_are, leads_requests, form_behind, form_before}
use Rattle.guide.proofs.Opening.{opens}
use Rattle.guide.proofs.Every.{behind}
use Rattle.guide.specs.Terms.{Terms}

module _ (T : Terms) (file : Summary) (ls : List Line) (rs : List Reply) where
  abbrev gated : Plan
  gated = lines T.address 5 ls (behind T file)

  abbrev out : List Asked
  out = requests (guide T file ls) rs

  -- where they matched, step 3 begins behind the opening
  pub record Reached (m : Matched T (target_of file) rs) : Type 0 where
    pub before : List Asked
    pub list : out ≡ before ++ requests gated m.left
    pub asked : bare before ≡ asked_in (opening T.address T.wanted m.captured m.read)
    pub plain : lines_in before ≡ []
    pub form_here : (qs : List Asked) → AllInForm (before ++ qs) rs → AllInForm qs m.left
    pub form_there : (qs : List Asked) → AllInForm qs m.left → AllInForm (before ++ qs) rs

  pub reached : (m : Matched T (target_of file) rs) → Reached m
  unfolding guide gate
  reached m =
      let o = opens T file gated T.wanted m.captured m.read in
      record {
        before = asks_of o.leads;
        list =
            leads_requests o.leads m.came
            ∙ ap (λ (x : Result (Unit {0}) Reason). asks_of o.leads ++ requests (gate x gated) m.left)
            ((judged_exactly (target_of file) T.kept m.read).passes m.fits);
        asked = asks_are o.leads;
        plain = o.plain;
        form_here = λ qs f. form_behind o.leads m.came f;
        form_there = λ qs f. form_before o.leads m.came f;
      }

  first_line_lem : (some : List Line) (last : List Reply) → 1 ≤ length some
      → (l : Line) × (more : List Line) × (rest : List Asked) × (some ≡ l ∷ more) × (requests (lines T.address 5 some (behind T file)) last ≡ line_asked T.address 5 l ∷ rest)
  unfolding lines requests
  first_line_lem [] last h = absurd (let y : ⊥ = omega arith in y)
  first_line_lem (l ∷ more) [] h = (l, more, [], refl, refl)
  first_line_lem (l ∷ more) (r ∷ last) h = (l, more, _, refl, refl)

  pub gate_next : 1 ≤ length ls → (m : Matched T (target_of file) rs)
      → (before : List Asked) × (l : Line) × (more : List Line) × (rest : List Asked)
      × (ls ≡ l ∷ more) × (out ≡ before ++ (line_asked T.address 5 l ∷ rest)) × (bare before ≡ asked_in (opening T.address T.wanted m.captured m.read))
  gate_next h m =
      let x = reached m in
      let y = first_line_lem ls m.left h in
      (x.before, y.0, y.1, y.2, y.3, x.list ∙ ap (λ (l : List Asked). x.before ++ l) y.4, x.asked)
