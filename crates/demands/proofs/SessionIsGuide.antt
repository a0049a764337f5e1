-- The session is the guide over every list of replies, from the first request on. Assumes nothing.
use mathlib.Core.Path.{◌≡◌, refl, sym, ap, ◌∙◌}
use mathlib.Core.List.{List, [], ◌∷◌}
use mathlib.Core.Bool.{Bool, true, false, cond, ◌||◌, or-false, or_assoc}
use Prim.Native.Nat.{ℕ, suc, ◌+◌, ◌≤◌}
use native.Mathlib.Omega.{arith}
use lib.Dec.{leb}
use lib.ListN.{length}
use borrow.Author.Tests.{le-leb}
use Rattle.counts.specs.Counts.{first_line}
use Rattle.line.specs.declared.Line.{Line}
use Rattle.summary.specs.declared.Summary.{Summary}
use Rattle.bus.specs.Bus.{framed, write_of}
use Rattle.guide.specs.Plan.{Reply, Asked, Plan, ask, done, requests, verdict, bare}
use Rattle.guide.specs.Guide.{guide}
use Rattle.guide.specs.Statements.{is_burn_mark, burns_in}
use Rattle.session.specs.declared.Settings.{Settings}
use Rattle.session.specs.declared.Session.{Session}
use Rattle.session.specs.declared.Handed.{Handed}
use Rattle.session.specs.declared.Stage.TheVariants.{Open}
use Rattle.session.specs.declared.Awaited.TheVariants.{CaptureAt, CounterAt}
use Rattle.session.specs.Moves.{with_stage, with_sent}
use Rattle.session.specs.Sound.{most_sent}
use Rattle.session.specs.Begin.{new_position, fresh_of, first_of, start_of}
use Rattle.session.specs.Reply.{reply_of}
use Rattle.demands.specs.Runs.{sent, after}
use Rattle.demands.proofs.RestOfGuide
use Rattle.demands.proofs.WhereItStands.{Lasting, capture_at_lem, counter_at_lem}
use Rattle.demands.proofs.FitsCall.{root_of, size_of, burn_of, Fits, other_fits, cond_fits}
use Rattle.demands.proofs.FitsReply.{onward, reply_fits}
use Rattle.demands.proofs.RestOfGuide.{terms_of}
use Rattle.demands.specs.Guided.{answer_for}

-- one request more, the burn or not
some_burn : (b : Bool) (x : ℕ) → (b || leb 1 x) ≡ leb 1 (cond b (suc x) x)
some_burn true x = sym (le-leb 1 (suc x) (omega arith))
some_burn false x = refl

module _ (text : List ℕ) (ls : List Line) where
  abbrev burnt : List Asked → Bool
  burnt qs = leb 1 (burns_in (4 + length ls) qs)

  -- from the state s, where t was handed back and the guide goes on with p
  pub record Along (s : Session) (t : Handed) (p : Plan) (rs : List Reply) : Type 0 where
    pub sends : sent text t rs ≡ bare (requests p rs)
    pub says : (after text t rs).answer ≡ answer_for (verdict p rs)
    pub counting : (after text t rs).session.sent ≡ s.sent + length (requests p rs)
    pub burning : (after text t rs).session.burned ≡ (s.burned || burnt (requests p rs))

  -- from the state s, whatever the replies, the guide's rest stays within what 15 allows
  abbrev pub Room : Session → Plan → Type 0
  Room s p = (rs : List Reply) → s.sent + length (requests p rs) ≤ most_sent s

  room_next : (s : Session) (t : Handed) (p : Plan) → Fits text ls s p t → Room s p
      → (t.session.sent ≤ most_sent t.session) × ((r : Reply) → Room t.session (onward p r))
  unfolding requests size_of most_sent onward
  room_next s t (ask q next) f n =
      rw (f.settings, f.file) (omega (arith, f.counting, n []), λ r rs. omega (arith, f.counting, n (r ∷ rs)))
  room_next s t (done v) f n = rw (f.settings, f.file) (omega (arith, f.counting, n []), λ r rs. omega (arith, f.counting, n rs))

  along : (s : Session) (t : Handed) (p : Plan) → Fits text ls s p t → Room s p → (rs : List Reply) → Along s t p rs
  unfolding sent after requests bare verdict root_of size_of burns_in burn_of onward answer_for
  along s t (ask q next) f n [] =
      record {
        sends = f.out;
        says = f.says;
        counting = f.counting;
        burning = f.burning ∙ ap (λ x. s.burned || x) (sym (or-false _) ∙ some_burn (is_burn_mark (4 + length ls) q.mark) 0);
      }
  along s t (ask q next) f n (r ∷ rs) =
      let m = room_next s t (ask q next) f n in
      let a : Along t.session (reply_of text t.session r.kind r.bytes) (next r) rs
      = along t.session _ (next r) (reply_fits text ls t.session f.sim m.0 r) (m.1 r) rs in
      record {
        sends = rw (f.out, a.sends);
        says = a.says;
        counting = omega (arith, a.counting, f.counting);
        burning =
            a.burning
            ∙ (ap (λ x. x || burnt (requests (next r) rs)) f.burning
            ∙ (or_assoc s.burned _ _ ∙ ap (λ x. s.burned || x) (some_burn (is_burn_mark (4 + length ls) q.mark) _)));
      }
  along s t (done v) f n [] = record { sends = f.out; says = f.says; counting = f.counting; burning = f.burning }
  along s t (done v) f n (r ∷ rs) =
      let m = room_next s t (done v) f n in
      let a : Along t.session (reply_of text t.session r.kind r.bytes) (done v) rs
      = along t.session _ (done v) (reply_fits text ls t.session f.sim m.0 r) (m.1 r) rs in
      record {
        sends = rw (f.out, a.sends);
        says = a.says;
        counting = omega (arith, a.counting, f.counting);
        burning = a.burning ∙ (or-false _ ∙ f.burning);
      }

  module _ (S : Settings) (file : Summary) (K : Lasting text ls S file) where
    -- before the first request
    abbrev pub before : Session
    before = fresh_of S file (Open CaptureAt) (new_position first_line file.line5)

    start_fits : Fits text ls before (guide (terms_of S) file ls) (start_of S file)
    unfolding start_of fresh_of new_position first_of with_stage with_sent write_of framed is_burn_mark RestOfGuide.capture_at RestOfGuide.counter_at
    start_fits =
        rw (RestOfGuide.guide_is (terms_of S) file ls)
        (cond_fits text ls before S.wanted
        (other_fits text ls before CaptureAt _ _ (omega arith) (capture_at_lem (omega arith)) (omega arith) K)
        (other_fits text ls before CounterAt _ _ (omega arith) (counter_at_lem (omega arith)) (omega arith) K))

    pub start_along : Room before (guide (terms_of S) file ls) → (rs : List Reply) → Along before (start_of S file) (guide (terms_of S) file ls) rs
    start_along n rs = along before (start_of S file) _ start_fits n rs
