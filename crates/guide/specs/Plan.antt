-- What is asked next, and how it goes on after each reply: a tree, and what it gives for a list of replies. Assumes nothing.
use Rattle.std.specs.Prelude.{List, [], ◌∷◌, ℕ}
use Rattle.bus.specs.declared.Request.{Request}
use Rattle.guide.specs.declared.Verdict.{Verdict}

-- a kind (0 not acknowledged, 1 done) with bytes
pub record Reply : Type 0 where
  pub kind : ℕ
  pub bytes : List ℕ

-- only a request of step 3 counts as a write line of the file, though others may have equal bytes
pub data Mark : Type 0 where
  other : Mark
  file_line : ℕ → Mark

pub record Asked : Type 0 where
  pub mark : Mark
  pub request : Request

pub data Plan : Type 0 where
  ask : Asked → (Reply → Plan) → Plan
  done : Verdict → Plan

pub data Outcome : Type 0 where
  waiting : Outcome
  ended : Verdict → Outcome

-- the requests put out, where these replies come
unfoldable pub requests : Plan → List Reply → List Asked
requests (ask q next) [] = q ∷ []
requests (ask q next) (r ∷ rs) = q ∷ requests (next r) rs
requests (done v) rs = []

-- the verdict, where these replies come
unfoldable pub verdict : Plan → List Reply → Outcome
verdict (ask q next) [] = waiting
verdict (ask q next) (r ∷ rs) = verdict (next r) rs
verdict (done v) rs = ended v

-- the requests alone, without their marks
unfoldable pub bare : List Asked → List Request
bare [] = []
bare (q ∷ qs) = q.request ∷ bare qs
