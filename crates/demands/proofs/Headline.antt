-- The headline: if the burn was put out, it was allowed to be. Assumes nothing.
use mathlib.Core.Path.{◌≡◌, sym, ap, ◌∙◌}
use mathlib.Core.Logic.{◌⊎◌, inl, inr}
use mathlib.Core.List.Memᴰ
use mathlib.Core.List.{List, ◌∷◌, ◌++◌, append_assoc}
use Prim.Native.Nat.{ℕ, suc, ◌+◌, ◌-◌, ◌≤◌}
use native.Mathlib.Omega.{arith}
use lib.ListN.{length, drop, length-drop}
use Rattle.cuts.specs.Lines.{lines_of}
use Rattle.image.specs.Meets.{Meets}
use Rattle.image.proofs.LinesAndBytes.{spelled-length}
use Rattle.image.proofs.MeetsPass.{spelled_of}
use Rattle.bus.specs.declared.Request.{Request}
use Rattle.guide.specs.Plan.{Reply, file_line, Asked, Plan, requests, bare}
use Rattle.guide.specs.Guide.{write_lines_of, guide_for, target_of}
use Rattle.guide.specs.Matched.{Matched, asked_in, opening}
use Rattle.guide.specs.Statements.{burns_in, before_burn, spellings, SpelledOnce, AllInForm}
use Rattle.guide.proofs.Through.{asked}
use Rattle.guide.proofs.Every.{behind}
use Rattle.guide.proofs.GateOpens.{Reached, reached}
use Rattle.guide.proofs.GateUnless.{Begins12, gate_unless12}
use Rattle.guide.proofs.Burning.{burns_behind, before_behind}
use Rattle.session.specs.declared.Settings.{Settings}
use Rattle.session.specs.declared.Handed.{Handed}
use Rattle.session.specs.Begin.{start_of}
use Rattle.demands.specs.Runs.{BegunFor, sent}
use Rattle.demands.specs.Guided.{Premises}
use Rattle.demands.specs.Headline.{target_in, lines_out, MayBurn, Headline}
use Rattle.guide.specs.Wire.{Wire, RightAt, in_use}
use Rattle.guide.proofs.LineBytes.{in_use_lem}
use Rattle.demands.specs.Rules.{SessionHeadline}
use Rattle.demands.proofs.PremisesGive.{meets, facts}
use Rattle.demands.proofs.Guided.{begun_is, guided}
use Rattle.guide.proofs.CourseIsGuide.{bare-append}
use Rattle.demands.proofs.SettingsSay.{not_reserved}
use Rattle.demands.proofs.AnyStart.{any_start}
use Rattle.demands.proofs.BurnIsLast.{last_burns}
use Rattle.demands.proofs.ContentIs.{spelled-drop, formed, target_is}
use Rattle.demands.proofs.BurnReached.{marked, marked_bare, Reach, reach}
use Rattle.demands.proofs.BurnSpelled.{spellings-append, opening_none, mem_spelled, said_in_form, guide_made}
use Rattle.session.specs.Terms.{kept_of, keeping}
use Rattle.guide.specs.Terms.{Terms}
use Rattle.guide.proofs.BurnsOnce.{burns_once}
use Rattle.guide.proofs.FileFacts.{lines_are_lem, some_line_lem}
use Rattle.guide.proofs.MarksTell.{same_self, spelled_once}
use Rattle.summary.specs.declared.Summary.{Summary}
use Rattle.guide.specs.declared.Words.{Words}

module _ {S : Settings} {kept : ℕ} {text : List ℕ} {file : Summary} (P : Premises S kept text file) {W : Wire} (right : RightAt S.address W) (rs : List Reply) where
  abbrev T : Terms
  T = keeping kept S

  abbrev n : ℕ
  n = file.lines

  abbrev rest : Plan
  rest = behind T file

  abbrev list : List Asked
  list = requests (guide_for T file text) rs

  abbrev m : Meets text
  m = meets P

  abbrev vs : List (List ℕ)
  vs = m.values

  sizes : (n ≡ length vs) × (12 ≤ length vs) × (length (drop 4 vs) ≡ length vs - 4)
  sizes = ((facts P).lines ∙ spelled-length (spelled_of m), omega (arith, m.meets.laid.count, m.meets.laid.some), length-drop 4 vs)

  -- the summary asks what the bytes of the lines ask
  same_target : target_of file ≡ target_in m
  same_target = ap (λ (f : Summary). target_of f) P.summary ∙ target_is m

  pub spells : spellings W.burn list ≡ burns_in n list
  unfolding SpelledOnce
  spells = spelled_once W T right file text (facts P) rs (not_reserved T P.allowed)

  -- what is a beginning of steps 1 and 2 does not hold the burn
  none_spelled : (captured : ℕ) (read : Words) (more : List Request) → asked_in (opening T.address T.wanted captured read) ≡ bare list ++ more
      → spellings W.burn list ≡ 0
  none_spelled captured read more e = rw right.burn (opening_none T.address list more T.wanted captured read e)

  module _ (some : 1 ≤ burns_in n list) where
    was_matched : Matched T (target_of file) rs
    was_matched = by (gate_unless12 T file text (facts P).few rs)
      where
        by : Matched T (target_of file) rs ⊎ Begins12 T file text (facts P).few rs → Matched T (target_of file) rs
        by (inl w) = w
        by (inr (captured, read, more, e)) = absurd (let y : ⊥ = omega (arith, none_spelled captured read more e, spells) in y)

    matched : Matched T (target_in m) rs
    matched =
        record {
          captured = was_matched.captured;
          read = was_matched.read;
          left = was_matched.left;
          came = was_matched.came;
          fits = rw same_target at was_matched.fits;
        }

    at3 : Reached T file (write_lines_of text) rs was_matched
    at3 = reached T file (write_lines_of text) rs was_matched

    found : Reach right n rest 5 (drop 4 (lines_of text)) (drop 4 vs) was_matched.left
    unfolding guide_for write_lines_of
    found =
        reach right n rest (spelled-drop 4 (spelled_of m)) 5 (omega arith) (formed m) (omega (arith, sizes.0, sizes.1, sizes.2))
        (omega (arith, sizes.1, sizes.2)) was_matched.left
        (rw (at3.list, burns_behind n at3.before _ at3.plain) at some)

    last_is_burn : W.line found.last ≡ W.burn
    last_is_burn = rw found.last_is (last_burns right m)

    abbrev earlier : List Asked
    earlier = at3.before ++ marked W 5 found.sofar

    whole : list ≡ earlier ++ (asked (file_line n) W.burn ∷ found.behind)
    unfolding guide_for write_lines_of
    whole = at3.list ∙ rw (found.list, last_is_burn) (sym (append_assoc at3.before _ _))

    in_form_lem : AllInForm earlier rs
    in_form_lem = at3.form_there _ found.form

    one : burns_in n list ≡ 1
    unfolding guide_for write_lines_of
    one =
        let b : before_burn n list ≡ earlier = rw at3.list (before_behind n at3.before _ at3.plain ∙ rw found.cut) in
        burns_once T file (write_lines_of text) rs (lines_are_lem text (facts P)) (some_line_lem text (facts P)) was_matched (rw b in_form_lem)

    -- the burn's own spelling is the only one
    alone : (spellings W.burn earlier ≡ 0) × (spellings W.burn found.behind ≡ 0)
    unfolding spellings
    alone =
        let burn = W.burn in
        let total : spellings burn earlier + suc (spellings burn found.behind) ≡ 1
        = sym (ap (spellings burn) whole ∙ spellings-append burn earlier _ ∙ rw (same_self burn.bytes)) ∙ (spells ∙ one) in
        (omega arith, omega arith)

    abbrev asking : List Request
    asking = asked_in (opening T.address T.wanted was_matched.captured was_matched.read)

    earlier_bare : bare earlier ≡ asking ++ lines_out W found.sofar
    earlier_bare = bare-append at3.before _ ∙ rw (at3.asked, marked_bare W 5 found.sofar)

    pub may_burn : MayBurn W T text rs (sent text (start_of S file) rs)
    unfolding bare matched
    may_burn =
        record {
          meets = m;
          allowed = P.allowed;
          matched = matched;
          lines = found.sofar;
          last = found.last;
          the_file = found.values;
          line_n = last_is_burn;
          behind = bare found.behind;
          order =
              (guided P rs).same_requests ∙ ap bare whole ∙ bare-append earlier _ ∙ rw earlier_bare (append_assoc asking _ _);
          earlier =
              rw (← earlier_bare)
              (said_in_form earlier rs (λ q x. guide_made T file text rs q (rw whole (Memᴰ.append_left _ x))) in_form_lem);
          not_before = λ x. omega (arith, mem_spelled W.burn earlier (rw earlier_bare x), alone.0);
          not_behind = λ x. omega (arith, mem_spelled W.burn found.behind x, alone.1);
        }

  pub burn_allowed : Headline W T text rs (sent text (start_of S file) rs)
  unfolding Headline
  burn_allowed b = may_burn (rw spells at (mem_spelled W.burn list (rw (guided P rs).same_requests at b)))

-- ---- of all settings and texts, from what a beginning for the text handed back: a refused start puts nothing out

pub headline : (S : Settings) {W : Wire} → RightAt S.address W → (text : List ℕ) {h : Handed} → BegunFor S text h → (rs : List Reply)
    → SessionHeadline W S text h rs
unfolding SessionHeadline Headline
headline S right text begun rs b =
    any_start S text rs begun (λ e. absurd (Memᴰ.not-nil (rw e at b)))
    (λ P. let e = begun_is P begun in (kept_of S.rule, P.rule, rw e (burn_allowed P right rs (rw e at b))))

-- with the address in use
pub session_headline : (S : Settings) (text : List ℕ) {h : Handed} → BegunFor S text h → (rs : List Reply) → SessionHeadline (in_use S.address) S text h rs
session_headline S text begun rs = headline S (in_use_lem S.address) text begun rs
