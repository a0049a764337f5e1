-- What step 1 writes back, of what went out: along the path of its first two exchanges. Assumes nothing.
use mathlib.Core.Path.{◌≡◌, refl, ap, ◌∙◌}
use mathlib.Core.Bool.{cond}
use mathlib.Core.List.{List, [], ◌∷◌}
use Prim.Native.Nat.{ℕ}
use Rattle.image.specs.Check.{check_of}
use Rattle.image.specs.Meets.{Meets}
use Rattle.bus.specs.declared.Request.{Request}
use Rattle.bus.specs.Bus.{write_of, word_bytes}
use Rattle.guide.specs.Requests.{point_to, read_data}
use Rattle.guide.specs.Judged.{cleared}
use Rattle.guide.specs.Plan.{Reply, Plan, requests, bare}
use Rattle.guide.specs.Guide.{write, step1, step2, lines, guide, write_lines_of, guide_for}
use Rattle.guide.specs.Matched.{Exchange, wrote, got, Heard, asked_in}
use Rattle.guide.proofs.Through.{Leads, arrived, on, asks_of, asks_are, leads_requests}
use Rattle.guide.proofs.Every.{behind}
use Rattle.guide.proofs.CourseIsGuide.{bare-append}
use Rattle.guide.proofs.StepOneClears.{writes_back}
use Rattle.session.specs.declared.Settings.{Settings}
use Rattle.session.specs.Terms.{keeping}
use Rattle.session.specs.declared.Handed.{Handed}
use Rattle.demands.specs.Runs.{BegunFor, sent}
use Rattle.demands.specs.Headline.{Allowed, Keeps}
use Rattle.demands.specs.Asked.{WroteBack}
use Rattle.demands.proofs.Guided.{begun_is, guided}
use Rattle.demands.proofs.Demand2.{premises}

-- a plan that asks puts its request out, whatever comes
asks_first : (q : Request) (next : Plan) (rs : List Reply) → (rest : List Request) × (bare (requests (write q next) rs) ≡ q ∷ rest)
unfolding requests bare
asks_first q next [] = (_, refl)
asks_first q next (r ∷ rs) = (_, refl)

-- step 1 up to what it writes back
module _ (address : ℕ) (rest : Plan) (w : ℕ) where
  abbrev first2 : List Exchange
  first2 = wrote (point_to address 0xA2 0x00) ∷ got (read_data address) w ∷ []

  abbrev third : Request
  third = write_of address 0xC5 (word_bytes (cleared w))

  abbrev from4 : Plan
  from4 = write (write_of address 0xE7 (0x02 ∷ 0x00 ∷ [])) rest

  leads2 : Leads (step1 address rest) first2 (write third from4)
  unfolding step1
  leads2 = on _ (on _ arrived)

  step1_writes : (rs left : List Reply) → Heard first2 rs left
      → (more : List Request) × (bare (requests (step1 address rest) rs) ≡ point_to address 0xA2 0x00 ∷ read_data address ∷ third ∷ more)
  unfolding asked_in
  step1_writes rs left h =
      let next = asks_first third from4 left in
      let asked : bare (asks_of leads2) ≡ point_to address 0xA2 0x00 ∷ read_data address ∷ [] = asks_are leads2 in
      (next.0, ap bare (leads_requests leads2 h) ∙ (bare-append (asks_of leads2) (requests (write third from4) left) ∙ rw (asked, next.1)))

pub wrote_back : (S : Settings) {kept : ℕ} → Keeps S.rule kept → {text : List ℕ} → Meets text → Allowed (keeping kept S) → {h : Handed} → BegunFor S text h → (rs : List Reply)
    → WroteBack (keeping kept S) rs (sent text h rs)
unfolding WroteBack guide_for guide
wrote_back S {kept} r {text} m a b rs wanted w left small h =
    let T = keeping kept S in
    let rest = step2 T (check_of text).summary (lines T.address 5 (write_lines_of text) (behind T (check_of text).summary)) in
    let x = step1_writes T.address rest w rs left h in
    let begun = ap (λ x. bare (requests (cond x (step1 T.address rest) rest) rs)) wanted in
    let started = ap (λ (h : Handed). sent text h rs) (begun_is (premises S r m a) b) in
    (third T.address rest w, x.0, started ∙ ((guided (premises S r m a) rs).same_requests ∙ (begun ∙ x.1)), writes_back T.address w small)
