-- What holds of every request of a plan holds of each that is put out, and no more go out than it has one behind the other: the
-- guide gone through once for both. Assumes nothing.
use mathlib.Core.Path.{◌≡◌}
use mathlib.Core.Logic.{⊎_elim}
use mathlib.Core.Bool.{Bool, true, false, cond}
use mathlib.Core.List.Memᴰ
use mathlib.Core.List.{List, [], ◌∷◌, Memᴰ}
use Prim.Native.Nat.{ℕ, zero, suc, ◌+◌, ◌*◌, ◌≤◌, ◌<◌}
use native.Mathlib.Omega.{arith}
use lib.Dec.{eqb}
use lib.ListN.{length, get_or}
use Rattle.std.specs.Prelude.{Result, Ok, Err}
use Rattle.line.specs.Digits.{digit_val, values_of}
use Rattle.line.specs.Reading.{line_of}
use Rattle.summary.specs.declared.Summary.{Summary}
use Rattle.bus.specs.declared.Request.{Request}
use Rattle.bus.specs.declared.Misreply.{Misreply}
use Rattle.bus.specs.Bus.{write_of, word_bytes}
use Rattle.bus.specs.ReplyForm.{form_of}
use Rattle.guide.specs.declared.Reason.{Reason}
use Rattle.guide.specs.declared.Verdict.{Verdict}
use Rattle.guide.specs.declared.Polled.{Polled}
use Rattle.guide.specs.declared.Polled.TheVariants.{Busy, Passed, Failed}
use Rattle.guide.specs.Judged.{polled_of, banks_right}
use Rattle.guide.specs.Plan.{Reply, Mark, other, Asked, Plan, ask, done, requests}
use Rattle.guide.specs.Requests.{point_to, read_data, read_block}
use Rattle.guide.specs.Guide.{hear, put, gate, step1, step2, lines, lines_as, polled, polls, step4, step5, id_in, crc_in, verify, step6, guide}
use Rattle.guide.specs.Statements.{line_asked}
use Rattle.guide.proofs.Through.{asked}
use Rattle.guide.specs.Terms.{Terms}

-- each request is so, and at most so many go out
pub data Every (P : Asked → Type 0) : ℕ → Plan → Type 0 where
  asks : {most : ℕ} {q : Asked} {next : Reply → Plan} → P q → ((r : Reply) → Every P most (next r)) → Every P (suc most) (ask q next)
  ends : {most : ℕ} {v : Verdict} → Every P most (done v)

-- steps 4 to 6
abbrev pub behind : Terms → Summary → Plan
behind T file = step4 T (step5 T.address file.configs (step6 T file))

module _ {P : Asked → Type 0} where
  pub every_request : {most : ℕ} {p : Plan} → Every P most p → (rs : List Reply) (q : Asked) → Memᴰ q (requests p rs) → P q
  unfolding requests
  every_request (asks a f) [] q m = ⊎_elim (λ e. rw e a) (λ n. absurd (Memᴰ.not-nil n)) (Memᴰ.cases_cons m)
  every_request (asks a f) (r ∷ rs) q m = ⊎_elim (λ e. rw e a) (λ n. every_request (f r) rs q n) (Memᴰ.cases_cons m)
  every_request ends rs q m = absurd (Memᴰ.not-nil m)

  pub every_most : {most : ℕ} {p : Plan} → Every P most p → (rs : List Reply) → length (requests p rs) ≤ most
  unfolding requests
  every_most (asks a f) [] = omega arith
  every_most (asks a f) (r ∷ rs) = omega (arith, every_most (f r) rs)
  every_most ends rs = omega arith

-- the requests that are no write lines of the file
pub data Other (T : Terms) (file : Summary) : Request → Type 0 where
  point : (low high : ℕ) → Other T file (point_to T.address low high)
  word : Other T file (read_data T.address)
  identity : Other T file (read_block T.address 0xAD)
  revision : Other T file (read_block T.address 0xAE)
  set : (w : ℕ) → Other T file (write_of T.address 0xC5 (word_bytes w))
  command : Other T file (write_of T.address 0xE7 (0x02 ∷ 0x00 ∷ []))
  load : (N : ℕ) → Other T file (write_of T.address T.restore (id_in file N ∷ []))

-- a plan that is over asks nothing
ruleset over = ends

module _ {P : Asked → Type 0} where
  -- at most so many, so at most more
  up : {most : ℕ} {p : Plan} (more : ℕ) → most ≤ more → Every P most p → Every P more p
  up zero h (asks a f) = absurd (let y : ⊥ = omega arith in y)
  up (suc more) h (asks a f) = asks a λ r. up more (omega arith) (f r)
  up more h ends = ends

  hear_every : {most : ℕ} (h : Result ℕ Misreply) (next : ℕ → Plan) → ((w : ℕ) → Every P most (next w)) → Every P most (hear h next)
  unfolding hear
  hear_every (Err m) next f = ends
  hear_every (Ok w) next f = f w

  put_every : {most : ℕ} (m : Mark) (q : Request) (next : ℕ → Plan) → P (asked m q) → ((w : ℕ) → Every P most (next w))
      → Every P (suc most) (put m q next)
  put_every m q next a f = asks a λ r. hear_every (form_of q r.kind r.bytes) next f

  cond_every : {most : ℕ} (b : Bool) {p p' : Plan} → Every P most p → Every P most p' → Every P most (cond b p p')
  cond_every true f g = f
  cond_every false f g = g

  gate_every : {most : ℕ} (x : Result (Unit {0}) Reason) {p : Plan} → Every P most p → Every P most (gate x p)
  unfolding gate
  gate_every (Ok tt) f = search over
  gate_every (Err v) f = search over

  polled_every : {most : ℕ} (x : Polled) {p p' : Plan} → Every P most p → Every P most p' → Every P most (polled x p p')
  unfolding polled
  polled_every Busy f g = search over
  polled_every Passed f g = search over
  polled_every Failed f g = search over

  -- write lines, from number i on
  lines_every : {most : ℕ} (address i : ℕ) (ts : List (List ℕ)) (rest : Plan)
      → ((j : ℕ) → j < length ts → P (line_asked address (i + j) (line_of (values_of digit_val (get_or ts j []))))) → Every P most rest
      → Every P (length ts + most) (lines address i (lines_as ts) rest)
  unfolding lines lines_as
  lines_every address i [] rest f g = up _ (omega arith) g
  lines_every {most} address i (t ∷ ts) rest f g =
      let here : i + 0 ≡ i = omega arith in
      up _ (omega arith)
      (put_every {most = length ts + most} _ _ _ (rw here at (f 0 (omega arith))) λ _.
      lines_every address (i + 1) ts rest (λ j h. let next : i + 1 + j ≡ i + suc j = omega arith in rw next (f (suc j) (omega arith))) g)

  module _ (T : Terms) (file : Summary) (others : (q : Request) → Other T file q → P (asked other q)) where
    other_every : {most : ℕ} (q : Request) (next : ℕ → Plan) → Other T file q → ((w : ℕ) → Every P most (next w))
        → Every P (suc most) (put other q next)
    other_every q next o f = put_every other q next (others q o) f

    verify_every : (left N : ℕ) → Every P (3 * left) (verify T file left N)
    unfolding verify
    verify_every zero N = ends
    verify_every (suc left) N =
        up _ (omega arith)
        (other_every {most = suc (suc (3 * left))} _ _ (load _) λ _. other_every _ _ (point _ _) λ _. other_every _ _ word λ w.
        cond_every (eqb w (crc_in file N)) (verify_every left (N + 1)) ends)

    step5_every : {most : ℕ} (k : ℕ) (rest : Plan) → Every P most rest → Every P (suc (suc most)) (step5 T.address k rest)
    unfolding step5
    step5_every k rest f = other_every _ _ (point _ _) λ _. other_every _ _ word λ w. cond_every (banks_right k w) f ends

    polls_every : {most : ℕ} (left : ℕ) (rest : Plan) → Every P most rest → Every P (left + most) (polls T.address left rest)
    unfolding polls
    polls_every zero rest f = ends
    polls_every {most} (suc left) rest f =
        up _ (omega arith)
        (other_every {most = left + most} _ _ word λ w. polled_every (polled_of w) (polls_every left rest f) (up _ (omega arith) f))

    pub behind_every : Every P (T.limit + 3 * file.configs + 3) (behind T file)
    unfolding step4
    behind_every =
        up _ (omega arith)
        (other_every {most = T.limit + suc (suc (3 * file.configs))} _ _ (point _ _) λ _.
        polls_every T.limit _ (step5_every _ _ (verify_every _ _)))

    step2_every : {most : ℕ} (rest : Plan) → Every P most rest → Every P (suc (suc (suc (suc (suc (suc most)))))) (step2 T file rest)
    unfolding step2
    step2_every rest f =
        other_every _ _ (point _ _) λ _. other_every _ _ word λ counter. other_every _ _ identity λ identity.
        other_every _ _ (point _ _) λ _. other_every _ _ word λ flag. other_every _ _ revision λ revision. gate_every _ f

    step1_every : {most : ℕ} (rest : Plan) → Every P most rest → Every P (suc (suc (suc (suc most)))) (step1 T.address rest)
    unfolding step1
    step1_every rest f =
        other_every _ _ (point _ _) λ _. other_every _ _ word λ w. other_every _ _ (set _) λ _. other_every _ _ command λ _. f

    -- steps 1 and 2 are ten, 4 and 5 three beside the polls
    pub guide_every : (ts : List (List ℕ)) → ((j : ℕ) → j < length ts → P (line_asked T.address (5 + j) (line_of (values_of digit_val (get_or ts j [])))))
        → Every P (length ts + T.limit + 3 * file.configs + 13) (guide T file (lines_as ts))
    unfolding guide
    guide_every ts f =
        let rest = step2_every _ (lines_every T.address 5 ts _ f behind_every) in
        cond_every T.wanted (up _ (omega arith) (step1_every _ rest)) (up _ (omega arith) rest)
