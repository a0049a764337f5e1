-- Every request goes to the address in use, with its own PEC if it is a write. Assumes nothing.
use mathlib.Core.Path.{◌≡◌, refl, sym, ap, ◌∙◌}
use mathlib.Core.Logic.{⊎_elim}
use mathlib.Core.Bool.{true≢false}
use mathlib.Core.List.Memᴰ
use mathlib.Core.List.{List, [], ◌∷◌, ◌++◌, Memᴰ}
use Prim.Native.Nat.{ℕ, ◌+◌, ◌≤◌}
use native.Mathlib.Omega.{arith}
use lib.ListN.{length, get_or, take, length-take, length-append}
use lib.Seq.{take-take, take-append_seam}
use Rattle.pec.specs.Pec.{pec}
use Rattle.pec.proofs.Laws.{pec_closed}
use Rattle.line.specs.declared.Line.{Line}
use Rattle.summary.specs.declared.Summary.{Summary}
use Rattle.bus.specs.declared.Request.{Request}
use Rattle.bus.specs.Bus.{eight, framed, write_of, read_address, read_of, word_bytes}
use Rattle.guide.specs.Terms.{Terms}
use Rattle.guide.specs.Requests.{line_data, line_request}
use Rattle.guide.specs.Wire.{burn_to}
use Rattle.guide.specs.Plan.{Reply, Asked, requests, bare}
use Rattle.guide.specs.Guide.{write_lines_of, guide_for}
use Rattle.guide.proofs.Every.{every_request, Other, point, word, identity, revision, set, command, load, guide_every}
use Rattle.session.specs.declared.Settings.{Settings}
use Rattle.session.specs.Terms.{keeping}
use Rattle.session.specs.declared.Handed.{Handed}
use Rattle.demands.specs.Runs.{BegunFor, sent}
use Rattle.demands.specs.Addresses.{GoesTo, ToTheAddress}
use Rattle.demands.proofs.Guided.{begun_is, guided}
use Rattle.demands.proofs.AnyStart.{any_start}

-- ---- one request

-- bytes that fit in eight stand there first
fitted : (xs : List ℕ) → length xs ≤ 8 → take (length xs) (eight xs) ≡ xs
unfolding eight
fitted xs h = take-take (length xs) 8 _ h ∙ take-append_seam xs _

module _ (address : ℕ) where
  first_byte : (c : ℕ) (bs : List ℕ) → get_or (write_of address c bs).bytes 0 0 ≡ address
  unfolding write_of framed eight
  first_byte c bs = refl

  write_goes : (c : ℕ) (bs : List ℕ) → length bs ≤ 5 → GoesTo address (write_of address c bs)
  unfolding write_of framed
  write_goes c bs h =
      let body : List ℕ = address ∷ c ∷ bs in
      let all : List ℕ = body ++ (pec body ∷ []) in
      let long : length all ≡ length body + 1 = simp length-append (omega arith) in
      let code : take (length body + 1) (eight all) ≡ all = ap (λ (n : ℕ). take n (eight all)) (sym long) ∙ fitted all (omega (arith, long)) in
      record { first = first_byte c bs; third = λ e. absurd (true≢false (sym e)); closed = λ _. ap pec code ∙ pec_closed body }

  read_goes : (c count : ℕ) → address ≤ 0xEE → GoesTo address (read_of address c count)
  unfolding read_of read_address eight
  read_goes c count h = record { first = refl; third = λ _. omega arith; closed = λ e. absurd (true≢false e) }

-- ---- those of the guide

module _ (T : Terms) (high : T.address ≤ 0xEE) (file : Summary) (text : List ℕ) (rs : List Reply) where
  abbrev To : Asked → Type 0
  To q = GoesTo T.address q.request

  pub other_goes : (q : Request) → Other T file q → GoesTo T.address q
  unfolding word_bytes
  other_goes _ (point a b) = write_goes T.address _ _ (omega arith)
  other_goes _ word = read_goes T.address _ _ high
  other_goes _ identity = read_goes T.address _ _ high
  other_goes _ revision = read_goes T.address _ _ high
  other_goes _ (set w) = write_goes T.address _ _ (omega arith)
  other_goes _ command = write_goes T.address _ _ (omega arith)
  other_goes _ (load N) = write_goes T.address _ _ (omega arith)

  pub line_goes : (l : Line) → GoesTo T.address (line_request T.address l)
  unfolding line_request line_data
  line_goes l = write_goes T.address l.command _ (simp length-take (omega arith))

  bare_goes : (qs : List Asked) → ((q : Asked) → Memᴰ q qs → To q) → (q : Request) → Memᴰ q (bare qs) → GoesTo T.address q
  unfolding bare
  bare_goes [] f q m = absurd (Memᴰ.not-nil m)
  bare_goes (a ∷ qs) f q m =
      ⊎_elim (λ e. rw e (f a (Memᴰ.head refl))) (λ n. bare_goes qs (λ b x. f b (Memᴰ.tail x)) q n) (Memᴰ.cases_cons m)

  guide_goes : (q : Request) → Memᴰ q (bare (requests (guide_for T file text) rs)) → GoesTo T.address q
  unfolding guide_for write_lines_of
  guide_goes = bare_goes _ (λ q m. every_request {P = To} (guide_every {P = To} T file other_goes _ (λ j h. line_goes _)) rs q m)

-- ---- of any settings and text

module _ (S : Settings) (text : List ℕ) {h : Handed} (b : BegunFor S text h) (rs : List Reply) where
  every : (q : Request) → Memᴰ q (sent text h rs) → GoesTo S.address q
  every q m =
      any_start S text rs b (λ e. absurd (Memᴰ.not-nil (rw e at m)))
      (λ P. guide_goes (keeping _ S) P.allowed.high _ text rs q (rw (begun_is P b, (guided P rs).same_requests) at m))

  pub to_the_address : ToTheAddress S.address (sent text h rs)
  to_the_address = record { every = every; nowhere = λ other m. (every (burn_to other) m).first }
