-- The session run over a list of replies, as a host runs it: begun for a text, and each call gets the state last handed back and the same
-- text. Assumes nothing.
use Rattle.std.specs.Prelude.{◌≡◌, List, [], ◌∷◌, ◌++◌, cond, ℕ, eqb}
use Rattle.bus.specs.declared.Request.{Request}
use Rattle.summary.specs.declared.Summary.{Summary}
use Rattle.image.specs.Check.{check_of}
use Rattle.guide.specs.Plan.{Reply}
use Rattle.session.specs.declared.Settings.{Settings}
use Rattle.session.specs.declared.Handed.{Handed}
use Rattle.session.specs.Begin.{begin_with, begin_of}
use Rattle.session.specs.Reply.{reply_of}

-- what a beginning for this text hands back: with the summary that checking this very text gave (document 02, R-3), or in document 01's one
-- operation
pub data BegunFor (S : Settings) (text : List ℕ) : Handed → Type 0 where
  with_summary : (f : Summary) → f ≡ (check_of text).summary → BegunFor S text (begin_with S f)
  at_once : BegunFor S text (begin_of S text)

-- "put out" means handed to the host; a request of zeros is none
unfoldable pub put_out : Request → List Request
put_out q = cond (eqb q.used 0) [] (q ∷ [])

module _ (text : List ℕ) where
  -- the requests put out, from what was handed back on
  unfoldable pub sent : Handed → List Reply → List Request
  sent h [] = put_out h.request
  sent h (r ∷ rs) = put_out h.request ++ sent (reply_of text h.session r.kind r.bytes) rs

  -- what is handed back last
  unfoldable pub after : Handed → List Reply → Handed
  after h [] = h
  after h (r ∷ rs) = after (reply_of text h.session r.kind r.bytes) rs
