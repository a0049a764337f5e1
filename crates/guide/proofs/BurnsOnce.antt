-- The burn is put out once if they matched and every request before it was answered in form. Assumes nothing.
use mathlib.Core.Path.{◌≡◌, ◌∙◌}
use mathlib.Core.List.{List, ◌++◌}
use Prim.Native.Nat.{ℕ, ◌+◌, ◌≤◌}
use native.Mathlib.Omega.{arith}
use lib.ListN.{length}
use Rattle.line.specs.declared.Line.{Line}
use Rattle.summary.specs.declared.Summary.{Summary}
use Rattle.guide.specs.Plan.{Reply, Asked, Plan, requests}
use Rattle.guide.specs.Guide.{lines, guide, target_of}
use Rattle.guide.specs.Matched.{Matched}
use Rattle.guide.specs.Statements.{burns_in, before_burn, AllInForm}
use Rattle.guide.proofs.Every.{behind}
use Rattle.guide.proofs.Burning.{behind_plain, burns_behind, before_behind, no_burns, lines_once}
use Rattle.guide.proofs.GateOpens.{Reached, reached}
use Rattle.guide.specs.Terms.{Terms}

module _ (T : Terms) (file : Summary) (ls : List Line) (rs : List Reply) (counted : file.lines ≡ 4 + length ls)
    (some : 1 ≤ length ls)
  where
    abbrev n : ℕ
    n = file.lines

    abbrev rest : Plan
    rest = behind T file

    abbrev from : List Reply → List Asked
    from last = requests (lines T.address 5 ls rest) last

    abbrev out : List Asked
    out = requests (guide T file ls) rs

    no_more : (last : List Reply) → burns_in n (requests rest last) ≡ 0
    no_more last = no_burns n _ (behind_plain T file last)

    module _ {m : Matched T (target_of file) rs} (x : Reached T file ls rs m) where
      burns_are : burns_in n out ≡ burns_in n (from m.left)
      burns_are = rw x.list (burns_behind n x.before _ x.plain)

      before_is : before_burn n out ≡ x.before ++ before_burn n (from m.left)
      before_is = rw x.list (before_behind n x.before _ x.plain)

      reached_once : AllInForm (before_burn n out) rs → burns_in n out ≡ 1
      reached_once f = burns_are ∙ lines_once n T.address rest no_more 5 ls m.left some (omega arith) (x.form_here _ (rw before_is at f))

    pub burns_once : Matched T (target_of file) rs → AllInForm (before_burn n out) rs → burns_in n out ≡ 1
    burns_once m f = reached_once (reached T file ls rs m) f
