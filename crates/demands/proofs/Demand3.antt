-- Demand 3: what holds of every run, from the guide's list and from demand 2. Assumes nothing.
use mathlib.Core.Path.{◌≡◌, refl, sym, ap, ◌∙◌}
use mathlib.Core.Logic.{◌⊎◌, inl, inr, ◌↔◌}
use mathlib.Core.Bool.{true}
use mathlib.Core.List.Memᴰ
use mathlib.Core.List.{List, [], ◌∷◌, ◌++◌, append_assoc, Memᴰ}
use Prim.Native.Nat.{ℕ, suc, ◌+◌}
use native.Mathlib.Omega.{arith}
use lib.Dec.{leb}
use lib.ListN.{length, drop}
use borrow.Author.Tests.{leb-true, le-leb}
use Rattle.summary.specs.declared.Summary.{Summary}
use Rattle.image.specs.Check.{check_of}
use Rattle.image.specs.Meets.{Meets}
use Rattle.image.proofs.SummarySays.{summary_says}
use Rattle.line.specs.declared.Line.{Line}
use Rattle.bus.specs.declared.Request.{Request}
use Rattle.bus.specs.ReplyForm.{form_of}
use Rattle.bus.proofs.FormMeans.{good_is}
use Rattle.guide.specs.declared.Words.{Words}
use Rattle.guide.specs.Terms.{Terms}
use Rattle.guide.specs.Wire.{Wire, RightAt}
use Rattle.guide.specs.Requests.{line_request}
use Rattle.guide.specs.Plan.{Reply, Asked, Plan, Outcome, waiting, ended, requests, bare}
use Rattle.guide.specs.Guide.{hear, lines, guide_for, target_of, write_lines_of}
use Rattle.guide.specs.Matched.{Exchange, Heard, asked_in, opening, Matched}
use Rattle.guide.specs.Matched as matched
use Rattle.guide.specs.Statements.{Bounded, Begins, burns_in}
use Rattle.guide.specs.Course.{line_requests, Now, Course}
use Rattle.guide.proofs.BeginsAndSettles.{begins}
use Rattle.guide.proofs.Bounded.{bounded}
use Rattle.guide.proofs.Every.{behind}
use Rattle.guide.proofs.FileFacts.{lines_are_lem as lines-count, some_line_lem}
use Rattle.guide.proofs.CourseIsGuide.{bare-append}
use Rattle.guide.proofs.GateUnless.{Begins12, gate_unless12}
use Rattle.guide.proofs.GateOpens.{reached, gate_next}
use Rattle.session.specs.declared.Settings.{Settings}
use Rattle.session.specs.declared.Answer.TheVariants.{BadState}
use Rattle.session.specs.declared.Handed.{Handed}
use Rattle.session.specs.Begin.{new_position, fresh_of, start_of}
use Rattle.session.specs.Terms.{keeping}
use Rattle.demands.specs.Runs.{BegunFor, sent, after}
use Rattle.demands.specs.Headline.{Allowed, Keeps, Answered, lines_out, target_in}
use Rattle.demands.specs.Headline as head
use Rattle.demands.specs.Guided.{Premises, answer_for}
use Rattle.demands.specs.Demands.{content_in, Demand3}
use Rattle.demands.proofs.PremisesGive.{facts}
use Rattle.demands.proofs.Guided.{begun_is, run, guided}
use Rattle.demands.proofs.BurnIsLast.{burn_is_last}
use Rattle.demands.proofs.ContentIs.{lines_are_lem, target_is, content_is}
use Rattle.demands.proofs.BurnSpelled.{mem_spelled}
use Rattle.demands.proofs.Headline.{may_burn, spells, burn_allowed}
use Rattle.demands.proofs.Demand2.{premises, course_of}

-- the guide never says 15
never_bad : (o : Outcome) → answer_for o ≡ BadState → ⊥
unfolding answer_for
never_bad waiting e = let z : ◌≡◌ {A = ℕ} 0 1 = cc in omega arith
never_bad (ended v) e = let z : ◌≡◌ {A = ℕ} 0 1 = cc in omega arith

bare-length : (a : List Asked) → length (bare a) ≡ length a
unfolding bare
bare-length [] = refl
bare-length (q ∷ a) = ap suc (bare-length a)

-- ---- answered requests, one part behind the other

answered_behind : {xs : List Exchange} {ys : List Request} {rs left : List Reply} → Heard xs rs left → Answered (asked_in xs ++ ys) rs → Answered ys left
unfolding asked_in
answered_behind (matched.none _) a = a
answered_behind (matched.more x xs r rs left i h) (head.more _ _ _ _ w j a) = answered_behind h a

-- where the lines before the last were answered, it is next
lines_answered : (address i : ℕ) (ls : List Line) (rest : Plan) (before : List Request) (q : Request) (rs : List Reply) → line_requests address ls ≡ before ++ (q ∷ [])
    → Answered before rs → (behind : List Request) × (bare (requests (lines address i ls rest) rs) ≡ before ++ (q ∷ behind))
unfolding line_requests lines requests bare hear
lines_answered address i [] rest [] q rs e a = let z : ◌≡◌ {A = ℕ} 0 1 = cc in absurd (let y : ⊥ = omega arith in y)
lines_answered address i [] rest (b ∷ before) q rs e a = let z : ◌≡◌ {A = ℕ} 0 1 = cc in absurd (let y : ⊥ = omega arith in y)
lines_answered address i (l ∷ ls) rest [] q [] e a = let same : line_request address l ≡ q = cc in ([], rw same)
lines_answered address i (l ∷ ls) rest [] q (r ∷ rs) e a =
    let same : line_request address l ≡ q = cc in
    let more : List Request = bare (requests (hear (form_of (line_request address l) r.kind r.bytes) (λ _. lines address (i + 1) ls rest)) rs) in
    (more, ap (λ (x : Request). x ∷ more) same)
lines_answered address i (l ∷ ls) rest (b ∷ before) q _ e (head.more _ _ r rs w j a) =
    let same : line_request address l ≡ b = cc in
    let more : line_requests address ls ≡ before ++ (q ∷ []) = cc in
    let k = lines_answered address (i + 1) ls rest before q rs more a in
    (k.0, rw (same, good_is j) (ap (λ (l : List Request). b ∷ l) k.1))

module _ (S : Settings) {W : Wire} (right : RightAt S.address W) {kept : ℕ} (r : Keeps S.rule kept) {text : List ℕ} (m : Meets text)
    (a : Allowed (keeping kept S)) (rs : List Reply) where
  abbrev T : Terms
  T = keeping kept S

  abbrev file : Summary
  file = (check_of text).summary

  abbrev P : Premises S kept text file
  P = premises S r m a

  abbrev list : List Asked
  list = requests (guide_for T file text) rs

  abbrev out : List Request
  out = sent text (start_of S file) rs

  abbrev ls : List Line
  ls = write_lines_of text

  -- where they matched, for the file's own target
  was : Matched T (target_in m) rs → Matched T (target_of file) rs
  was w = record { captured = w.captured; read = w.read; left = w.left; came = w.came; fits = rw (target_is m) w.fits }

  -- the requests of steps 1 and 2, and what went out behind them
  abbrev opens : Matched T (target_in m) rs → List Request
  opens w = asked_in (opening T.address T.wanted w.captured w.read)

  behind_opening : (w : Matched T (target_in m) rs) → out ≡ opens w ++ bare (requests (lines T.address 5 ls (behind T file)) w.left)
  unfolding guide_for was
  behind_opening w =
      let x = reached T file ls rs (was w) in
      (guided P rs).same_requests ∙ (ap bare x.list ∙ (bare-append x.before _ ∙ rw x.asked))

  -- ---- the gate

  unless : Matched T (target_in m) rs
      ⊎ ((captured : ℕ) × (read : Words) × (rest : List Request) × (asked_in (opening T.address T.wanted captured read) ≡ out ++ rest))
  unless = by (gate_unless12 T file text (facts P).few rs)
    where
      by : Matched T (target_of file) rs ⊎ Begins12 T file text (facts P).few rs
          → Matched T (target_in m) rs ⊎ ((captured : ℕ) × (read : Words) × (rest : List Request) × (asked_in (opening T.address T.wanted captured read) ≡ out ++ rest))
      by (inl w) = inl (rw (target_is m) at w)
      by (inr (captured, read, rest, e)) = inr (captured, read, rest, e ∙ ap (λ (l : List Request). l ++ rest) (sym (guided P rs).same_requests))

  next : (w : Matched T (target_in m) rs)
      → (first : Request) × (more : List Request) × (rest : List Request) × (lines_out W (drop 4 m.values) ≡ first ∷ more) × (out ≡ opens w ++ (first ∷ rest))
  unfolding line_requests bare guide_for was
  next w =
      let g = gate_next T file ls rs (some_line_lem text (facts P)) (was w) in
      let stand = sym (lines_are_lem m right) ∙ ap (line_requests T.address) g.4 in (
        line_request T.address g.1,
        line_requests T.address g.2,
        bare g.3,
        stand,
        (guided P rs).same_requests ∙ (ap bare g.5 ∙ (bare-append g.0 _ ∙ rw g.6)),
      )

  -- ---- the burn

  once : (w : Matched T (target_in m) rs) → Answered (opens w ++ (burn_is_last right m).0) rs
      → (after : List Request) × (out ≡ (opens w ++ (burn_is_last right m).0) ++ (W.burn ∷ after))
  once w a =
      let before = (burn_is_last right m).0 in
      let k = lines_answered T.address 5 ls (behind T file) before W.burn w.left (lines_are_lem m right ∙ (burn_is_last right m).1) (answered_behind w.came a) in
      (k.0, behind_opening w ∙ (ap (λ (l : List Request). opens w ++ l) k.1 ∙ sym (append_assoc (opens w) before _)))

  burned_is : (after text (start_of S file) rs).session.burned ≡ leb 1 (burns_in file.lines list)
  unfolding fresh_of new_position
  burned_is = (run P rs).burning ∙ ap (λ k. leb 1 (burns_in k list)) (sym (lines-count text (facts P)))

  reports : ((after text (start_of S file) rs).session.burned ≡ true) ↔ Memᴰ W.burn out
  reports = (
    λ e. let x = may_burn P right rs (leb-true 1 _ (sym burned_is ∙ e)) in
        rw x.order (Memᴰ.append_right (asked_in (opening T.address T.wanted x.matched.captured x.matched.read)) (Memᴰ.append_right (lines_out W x.lines) (Memᴰ.head {xs = x.behind} refl))),
    λ x. burned_is ∙ le-leb 1 _ (rw (spells P right rs) at (mem_spelled W.burn list (rw (guided P rs).same_requests at x))),
  )

  -- ---- the list

  beginning : (later : List Reply) → (x : Now) × (rest : List Request) × Course T (content_in W m) (rs ++ later) x (out ++ rest)
  unfolding Begins
  beginning later =
      let b = begins (guide_for T file text) rs later in
      let e : bare (requests (guide_for T file text) (rs ++ later)) ≡ out ++ bare b.0
      = ap bare b.1 ∙ (bare-append list b.0 ∙ ap (λ (l : List Request). l ++ bare b.0) (sym (guided P rs).same_requests)) in
      (_, bare b.0, rw (content_is m right, e) at (course_of S right r m a (rs ++ later)).goes)

  length_is : length out ≡ length list
  length_is = ap length (guided P rs).same_requests ∙ bare-length list

  demand3_start : Demand3 W T m rs out (after text (start_of S file) rs)
  unfolding Bounded fresh_of new_position
  demand3_start =
      let says = summary_says m in
      record {
        never15 = λ h. never_bad _ (sym (guided P rs).same_answer ∙ h);
        beginning = beginning;
        unless = unless;
        next = next;
        once = ((burn_is_last right m).0, (burn_is_last right m).1, once);
        never = burn_allowed P right rs;
        counts = rw length_is (omega (arith, (run P rs).counting));
        reports = reports;
        bound = rw length_is (omega (arith, bounded T file text (facts P) rs, says.lines, says.configs));
      }

  pub demand3 : {h : Handed} → BegunFor S text h → Demand3 W T m rs (sent text h rs) (after text h rs)
  demand3 b = rw (begun_is P b) demand3_start
