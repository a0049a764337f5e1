-- No report has the number 12: a file's does not, and a session's own are 0 and from 14 on. Assumes nothing.
use Prim.Native.Nat.{ℕ, ◌≤◌}
use mathlib.Core.Path.{◌≡◌, ap, ◌∙◌}
use native.Mathlib.Omega.{arith}
use lib.Dec.{lit≤}
use Rattle.std.specs.Prelude.{Some}
use Rattle.summary.specs.declared.Told.{Told}
use Rattle.summary.proofs.Numbers.{refusal_number}
use Rattle.guide.specs.declared.Reason.{Reason}
use Rattle.guide.specs.declared.Reason.TheVariants.{Nack, Shape, Pec, Counter, Identity, Flag, Old, OtherKind, Places, Program, Banks}
use Rattle.guide.specs.declared.Verdict.{Verdict}
use Rattle.guide.specs.declared.Verdict.TheVariants.{Done, Setting, File, Mismatch, Halted, State}
use Rattle.guide.specs.Numbers.{reason_number, verdict_told}
use Rattle.session.specs.declared.Answer.{Answer}
use Rattle.session.specs.declared.Answer.TheVariants.{Next, Over, BadState}
use Rattle.session.specs.Reports.{report_of}
use Rattle.demands.specs.Exactly.{NoReport12}

reason_late : (r : Reason) → 20 ≤ reason_number r
reason_late Nack = lit≤ tt
reason_late Shape = lit≤ tt
reason_late Pec = lit≤ tt
reason_late Counter = lit≤ tt
reason_late Identity = lit≤ tt
reason_late Flag = lit≤ tt
reason_late Old = lit≤ tt
reason_late OtherKind = lit≤ tt
reason_late Places = lit≤ tt
reason_late Program = lit≤ tt
reason_late Banks = lit≤ tt

verdict_not : (v : Verdict) → (verdict_told v).number ≡ 12 → ⊥
verdict_not Done e = omega arith
verdict_not Setting e = omega arith
verdict_not (File r) e = (refusal_number r).not12 e
verdict_not (Mismatch n) e = omega arith
verdict_not (Halted r) e = omega (arith, reason_late r)
verdict_not State e = omega arith

-- the same number, where the same is told
told_not : (t u : Told) → (t.number ≡ 12 → ⊥) → Some t ≡ Some u → u.number ≡ 12 → ⊥
told_not t u not e n = let same : t ≡ u = cc in not (ap (λ (x : Told). x.number) same ∙ n)

pub no_report_12 : (a : Answer) → NoReport12 a
unfolding NoReport12 report_of
no_report_12 Next t e n = let z : ◌≡◌ {A = ℕ} 0 1 = cc in omega arith
no_report_12 (Over v) t e n = told_not (verdict_told v) t (verdict_not v) e n
no_report_12 BadState t e n = told_not _ t (λ f. omega (arith, f)) e n
