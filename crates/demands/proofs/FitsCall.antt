-- What a call hands back fits the plan that the guide goes on with: a request that is put out, an end, and a reply that is heard.
-- Assumes nothing.
use mathlib.Core.Path.{◌≡◌, refl, sym}
use mathlib.Core.List.{List, [], ◌∷◌}
use mathlib.Core.Bool.{Bool, true, false, cond, ◌||◌, or-false}
use Prim.Native.Nat.{ℕ, ◌+◌, ◌≤◌}
use native.Mathlib.Omega.{arith}
use lib.ListN.{length}
use borrow.Author.Tests.{ne_eqb}
use Rattle.std.specs.Prelude.{Result, Ok, Err}
use Rattle.line.specs.declared.Line.{Line}
use Rattle.bus.specs.declared.Request.{Request}
use Rattle.bus.specs.declared.Misreply.{Misreply}
use Rattle.bus.specs.Bus.{no_request}
use Rattle.guide.specs.declared.Verdict.{Verdict}
use Rattle.guide.specs.declared.Verdict.TheVariants.{Halted}
use Rattle.guide.specs.Plan.{Reply, Mark, other, Plan, ask, done, verdict}
use Rattle.guide.specs.Guide.{hear, reply_reason}
use Rattle.guide.specs.Statements.{is_burn_mark}
use Rattle.guide.proofs.Through.{asked}
use Rattle.session.specs.declared.Position.{Position}
use Rattle.session.specs.declared.Session.{Session}
use Rattle.session.specs.declared.Handed.{Handed}
use Rattle.session.specs.declared.Stage.TheVariants.{Open}
use Rattle.session.specs.declared.Awaited.{Awaited}
use Rattle.session.specs.Moves.{with_stage, with_position, with_sent, put_of, end_of}
use Rattle.session.specs.Reply.{follow_of, replied_of}
use Rattle.demands.specs.Runs.{put_out}
use Rattle.demands.proofs.WhereItStands.{hand_of, Lasting, Bounds, At, Sim, running, finished}
use Rattle.demands.specs.Guided.{answer_for}

-- the request that a plan puts out, none where it is done
unfoldable pub root_of : Plan → List Request
root_of (ask q next) = q.request ∷ []
root_of (done v) = []

unfoldable pub size_of : Plan → ℕ
size_of (ask q next) = 1
size_of (done v) = 0

unfoldable pub burn_of : ℕ → Plan → Bool
burn_of n (ask q next) = is_burn_mark n q.mark
burn_of n (done v) = false

pub put_out_some : (q : Request) → 1 ≤ q.used → put_out q ≡ q ∷ []
unfolding put_out
put_out_some q h = rw (ne_eqb q.used 0 (omega arith))

-- the state that holds this request
abbrev pub holding : Session → Awaited → Request → Session
holding s g q = with_sent (with_stage s (Open g) q) (s.sent + 1)

module _ (text : List ℕ) (ls : List Line) where
  -- what is handed back from the state s, where the guide goes on with the plan p
  pub record Fits (s : Session) (p : Plan) (t : Handed) : Type 0 where
    pub sim : Sim text ls t.session t.session.stage p
    pub out : put_out t.request ≡ root_of p
    pub settings : t.session.settings ≡ s.settings
    pub file : t.session.file ≡ s.file
    pub counting : t.session.sent ≡ s.sent + size_of p
    pub burning : t.session.burned ≡ (s.burned || burn_of (4 + length ls) p)
    pub says : t.answer ≡ answer_for (verdict p [])

  pub end_fits : (s : Session) (v : Verdict) → Fits s (done v) (end_of s v)
  unfolding end_of with_stage no_request put_out root_of size_of burn_of answer_for verdict
  end_fits s v = record { sim = finished; out = refl; settings = refl; file = refl; counting = omega arith; burning = sym (or-false s.burned); says = refl }

  pub hear_fits : (s : Session) (g : Awaited) (next : ℕ → Plan) (h : Result ℕ Misreply) → ((w : ℕ) → Fits s (next w) (follow_of text s g w))
      → Fits s (hear h next) (replied_of text s g h)
  unfolding hear replied_of
  hear_fits s g next (Err m) f = end_fits s (Halted (reply_reason m))
  hear_fits s g next (Ok w) f = f w

  pub put_fits : (s t : Session) (g : Awaited) (m : Mark) (q : Request) (next : Reply → Plan)
      → t.settings ≡ s.settings → t.file ≡ s.file → t.sent ≡ s.sent → t.burned ≡ (s.burned || is_burn_mark (4 + length ls) m) → 1 ≤ q.used
      → At text ls (holding t g q) g (ask (asked m q) next) → Bounds text ls (holding t g q) → Lasting text ls t.settings t.file
      → Fits s (ask (asked m q) next) (put_of t g q)
  unfolding put_of with_sent with_stage root_of hand_of size_of burn_of verdict answer_for
  put_fits s t g m q next S f c b u a l K =
      record {
        sim = running refl refl a l K;
        out = put_out_some q u;
        settings = S;
        file = f;
        counting = omega arith;
        burning = b;
        says = refl;
      }

  -- a request that is no write line of the file, from a state that has moved so far
  pub moved_fits : (s : Session) (x : Position) (g : Awaited) (q : Request) (next : Reply → Plan) → 1 ≤ q.used
      → At text ls (holding (with_position s x) g q) g (ask (asked other q) next) → Bounds text ls (holding (with_position s x) g q)
      → Lasting text ls s.settings s.file
      → Fits s (ask (asked other q) next) (put_of (with_position s x) g q)
  unfolding with_position is_burn_mark
  moved_fits s x g q next u a l K = put_fits s (with_position s x) g other q next refl refl refl (sym (or-false s.burned)) u a l K

  pub other_fits : (s : Session) (g : Awaited) (q : Request) (next : Reply → Plan) → 1 ≤ q.used
      → At text ls (holding s g q) g (ask (asked other q) next) → Bounds text ls (holding s g q) → Lasting text ls s.settings s.file
      → Fits s (ask (asked other q) next) (put_of s g q)
  unfolding is_burn_mark
  other_fits s g q next u a l K = put_fits s s g other q next refl refl refl (sym (or-false s.burned)) u a l K

  pub cond_fits : (s : Session) {p p' : Plan} {t t' : Handed} (b : Bool) → Fits s p t → Fits s p' t' → Fits s (cond b p p') (cond b t t')
  cond_fits s true f g = f
  cond_fits s false f g = g
