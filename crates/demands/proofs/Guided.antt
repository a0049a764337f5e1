-- Each request and each answer are what the guide's list gives for the replies so far. Assumes nothing.
use mathlib.Core.Path.{◌≡◌, sym, subst}
use mathlib.Core.List.{List}
use Prim.Native.Nat.{ℕ}
use Rattle.guide.specs.Plan.{Reply}
use Rattle.guide.specs.Guide.{write_lines_of, guide_for}
use Rattle.session.specs.declared.Settings.{Settings}
use Rattle.session.specs.Begin.{start_of, begin_with, answered_of, checked_of, begin_of, new_position, fresh_of}
use Rattle.session.proofs.Laws.{begin_sound}
use Rattle.demands.specs.Runs.{BegunFor, with_summary, at_once, sent, after}
use Rattle.demands.specs.Guided.{Premises, Guided}
use Rattle.demands.proofs.PremisesGive.{taken, lasting, facts}
use Rattle.demands.proofs.SessionIsGuide.{Along, before, start_along, Room}
use native.Mathlib.Omega.{arith}
use Rattle.session.specs.Terms.{keeping}
use Rattle.demands.proofs.RestOfGuide.{terms_of}
use Rattle.guide.specs.Statements.{Bounded}
use Rattle.guide.proofs.Bounded.{bounded}
use Rattle.summary.specs.declared.Summary.{Summary}
use Rattle.session.specs.declared.Session.{Session}
use Rattle.session.specs.declared.Handed.{Handed}
use Rattle.session.specs.Sound.{most_sent}
use Rattle.demands.proofs.SettingsSay.{kept_is, is_allowed}

module _ {S : Settings} {kept : ℕ} {text : List ℕ} {file : Summary} (P : Premises S kept text file) where
  -- a beginning for this text starts with the text's own summary
  with_is : begin_with S file ≡ start_of S file
  with_is = sym (begin_sound S file (is_allowed S P.rule P.allowed) (lasting P).sound)

  pub begun_is : {h : Handed} → BegunFor S text h → h ≡ start_of S file
  unfolding begin_of checked_of answered_of
  begun_is (with_summary f e) = rw (e, ← P.summary) with_is
  begun_is at_once = rw (is_allowed S P.rule P.allowed, taken P, ← P.summary) with_is

  -- before the first request
  abbrev pub first : Session
  first = before text (write_lines_of text) S file (lasting P)

  -- the bound is the guide's own
  room : Room text (write_lines_of text) first (guide_for (terms_of S) file text)
  unfolding fresh_of new_position most_sent Bounded
  room rs = omega (arith, bounded (terms_of S) file text (facts P) rs)

  -- with the places that the settings' rule keeps free
  pub run : (rs : List Reply) → Along text (write_lines_of text) first (start_of S file) (guide_for (keeping kept S) file text) rs
  unfolding guide_for
  run rs =
      subst (λ k. Along text (write_lines_of text) first (start_of S file) (guide_for (keeping k S) file text) rs) (kept_is P.rule)
      (start_along text (write_lines_of text) S file (lasting P) room rs)

  module _ (rs : List Reply) where
    abbrev Holds : Handed → Type 0
    Holds start = Guided (keeping kept S) file text rs (sent text start rs) (after text start rs)

    pub guided : Holds (start_of S file)
    guided = let a = run rs in record { same_requests = a.sends; same_answer = a.says }
