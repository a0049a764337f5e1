-- The exchanges of steps 3 to 6 lead through them, each before any rest. Assumes nothing.
use mathlib.Core.Path.{◌≡◌, refl}
use mathlib.Core.Bool.{true, cond}
use mathlib.Core.List.{List, [], ◌∷◌, ◌++◌}
use Prim.Native.Nat.{ℕ, zero, suc, ◌+◌}
use native.Mathlib.Omega.{arith}
use lib.Dec.{eqb}
use lib.ListN.{length}
use borrow.Author.Tests.{eq-eqb}
use Rattle.counts.specs.Counts.{config_number}
use Rattle.line.specs.declared.Line.{Line}
use Rattle.summary.specs.declared.Summary.{Summary}
use Rattle.guide.specs.Requests.{point_to, read_data}
use Rattle.guide.specs.declared.Verdict.TheVariants.{Done, Mismatch, Halted}
use Rattle.guide.specs.declared.Reason.TheVariants.{Banks}
use Rattle.guide.specs.Judged.{polled_of, banks_right}
use Rattle.guide.specs.Plan.{Plan, done}
use Rattle.guide.specs.Guide.{lines, polled, polls, step5, crc_in, verify}
use Rattle.guide.specs.Matched.{Exchange, wrote, got}
use Rattle.guide.specs.Course.{heard3, heard4, heard6, line_requests, configs_in}
use Rattle.guide.proofs.Through.{Leads, arrived, on}
use Rattle.guide.proofs.Statuses.{Clear, busy_is}
use Rattle.guide.specs.Terms.{Terms}

-- ---- step 3

module _ {p rest : Plan} {ys : List Exchange} (k : Leads rest ys p) where
  pub lines_leads : (address i : ℕ) (ls : List Line) → Leads (lines address i ls rest) (heard3 (line_requests address ls) ++ ys) p
  unfolding lines heard3 line_requests
  lines_leads address i [] = k
  lines_leads address i (l ∷ ls) = on _ (lines_leads address (i + 1) ls)

-- ---- step 4

module _ (address : ℕ) (rest : Plan) where
  -- statuses with bit 0 clear lead to the polls that are left behind them
  pub polls_run : {p : Plan} {ys : List Exchange} (n left : ℕ) (busy : List ℕ) → length busy + n ≡ left → Clear busy → Leads (polls address n rest) ys p
      → Leads (polls address left rest) (heard4 address busy ++ ys) p
  unfolding heard4 polls polled
  polls_run n left [] e f k = let z : left ≡ n = omega arith in rw z k
  polls_run n zero (b ∷ busy) e f k = absurd (let y : ⊥ = omega arith in y)
  polls_run {p} {ys} n (suc left) (b ∷ busy) e f k =
      let l : Leads (polled (polled_of b) (polls address left rest) rest) (heard4 address busy ++ ys) p
      = rw (busy_is b (f 0 (omega arith))) (polls_run n left busy (omega arith) (λ i g. f (suc i) (omega arith)) k) in
      on _ l

-- ---- step 5

module _ {p rest : Plan} {ys : List Exchange} (k : Leads rest ys p) where
  pub step5_leads : (address n banks : ℕ) → banks_right n banks ≡ true
      → Leads (step5 address n rest) (wrote (point_to address 0x7F 0x00) ∷ got (read_data address) banks ∷ ys) p
  unfolding step5
  step5_leads address n banks e = let l : Leads (cond (banks_right n banks) rest (done (Halted Banks))) ys p = rw e k in on _ (on _ l)

-- ---- step 6

module _ (T : Terms) (file : Summary) where
  pub verify_leads : (left N : ℕ) → Leads (verify T file left N) (heard6 T (configs_in file left N)) (done Done)
  unfolding verify heard6 configs_in
  verify_leads zero N = arrived
  verify_leads (suc left) N =
      let more = verify T file left (N + 1) in
      let l : Leads (cond (eqb (crc_in file N) (crc_in file N)) more (done (Mismatch (config_number N)))) (heard6 T (configs_in file left (N + 1))) (done Done)
      = rw (eq-eqb (crc_in file N) (crc_in file N) refl) (verify_leads left (N + 1)) in
      on _ (on _ (on _ l))
