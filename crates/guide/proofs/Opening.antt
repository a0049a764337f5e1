-- Steps 1 and 2, before any rest: the exchanges of the opening lead to the gate. Assumes nothing.
use mathlib.Core.Path.{◌≡◌, refl}
use mathlib.Core.Bool.{Bool, true, false, cond}
use mathlib.Core.List.{[]}
use Prim.Native.Nat.{ℕ}
use Rattle.std.specs.Prelude.{Result}
use Rattle.summary.specs.declared.Summary.{Summary}
use Rattle.guide.specs.declared.Reason.{Reason}
use Rattle.guide.specs.Judged.{fit_of}
use Rattle.guide.specs.Plan.{Plan}
use Rattle.guide.specs.Guide.{gate, step1, step2, target_of}
use Rattle.guide.specs.Matched.{heard2, opening}
use Rattle.guide.specs.Statements.{is_line, lines_in}
use Rattle.guide.proofs.Through.{Leads, arrived, on, asks_of}
use Rattle.guide.specs.Terms.{Terms}
use Rattle.guide.specs.declared.Words.{Words}

module _ (T : Terms) (file : Summary) where
  abbrev pub fit_for : Words → Result (Unit {0}) Reason
  fit_for read = fit_of (target_of file) T.kept read

  -- both steps, or the second alone
  abbrev pub begun : Bool → Plan → Plan
  begun wanted rest = cond wanted (step1 T.address (step2 T file rest)) (step2 T file rest)

  module _ (rest : Plan) where
    step2_leads : (read : Words) → Leads (step2 T file rest) (heard2 T.address read) (gate (fit_for read) rest)
    unfolding step2
    step2_leads read = on _ (on _ (on _ (on _ (on _ (on _ arrived)))))

    -- the path of both, with what it asks
    pub record Opens (wanted : Bool) (captured : ℕ) (read : Words) : Type 0 where
      pub leads : Leads (begun wanted rest) (opening T.address wanted captured read) (gate (fit_for read) rest)
      pub plain : lines_in (asks_of leads) ≡ []

    pub opens : (wanted : Bool) (captured : ℕ) (read : Words) → Opens wanted captured read
    unfolding opening asks_of step1 step2 step2_leads lines_in is_line
    opens true captured read = record { leads = on _ (on _ (on _ (on _ (step2_leads read)))); plain = refl }
    opens false captured read = record { leads = step2_leads read; plain = refl }
