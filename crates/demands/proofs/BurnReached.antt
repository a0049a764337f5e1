-- Step 3 reaches the burn only behind all lines before it, each answered in form. Assumes nothing.
use mathlib.Core.Path.{◌≡◌, refl, ap, ◌∙◌}
use mathlib.Core.Bool.{false}
use mathlib.Core.List.{List, [], ◌∷◌, ◌++◌}
use Prim.Native.Nat.{ℕ, suc, ◌+◌, ◌-◌, ◌≤◌, ◌<◌}
use native.Mathlib.Omega.{arith}
use lib.Dec.{eqb}
use lib.ListN.{length, get_or}
use borrow.Author.Tests.{eq-eqb, ne_eqb}
use Rattle.std.specs.Prelude.{Result, Ok, Err}
use Rattle.line.specs.Digits.{digit_val, values_of}
use Rattle.line.specs.Reading.{line_of}
use Rattle.line.specs.LineForm.{LineForm, Spells}
use Rattle.line.proofs.Spelling.{spells_values}
use Rattle.image.specs.Meets.{Spelled, none, line}
use Rattle.bus.specs.declared.Request.{Request}
use Rattle.bus.specs.declared.Misreply.{Misreply}
use Rattle.bus.specs.ReplyForm.{form_of}
use Rattle.guide.specs.Plan.{Reply, file_line, Asked, Plan, requests, bare}
use Rattle.guide.specs.Guide.{hear, lines, lines_as}
use Rattle.guide.specs.Requests.{line_request}
use Rattle.guide.specs.Statements.{is_burn_mark, burns_in, before_burn, AllInForm}
use Rattle.guide.specs.Statements as said
use Rattle.guide.proofs.Through.{asked}
use Rattle.guide.specs.Wire.{Wire, RightAt}
use Rattle.guide.proofs.LineBytes.{line_out_lem}
use Rattle.demands.specs.Headline.{lines_out}

-- lines on the wire, from number i on
unfoldable pub marked : Wire → ℕ → List (List ℕ) → List Asked
marked W i [] = []
marked W i (v ∷ vs) = asked (file_line i) (W.line v) ∷ marked W (i + 1) vs

pub marked_bare : (W : Wire) (i : ℕ) (vs : List (List ℕ)) → bare (marked W i vs) ≡ lines_out W vs
unfolding bare marked lines_out
marked_bare W i [] = refl
marked_bare W i (v ∷ vs) = ap (λ (l : List Request). W.line v ∷ l) (marked_bare W (i + 1) vs)

module _ {address : ℕ} {W : Wire} (right : RightAt address W) (n : ℕ) (rest : Plan) where
  abbrev out : ℕ → List (List ℕ) → List Reply → List Asked
  out i ts rs = requests (lines address i (lines_as ts) rest) rs

  pub record Reach (i : ℕ) (ts vs : List (List ℕ)) (rs : List Reply) : Type 0 where
    pub sofar : List (List ℕ)
    pub last : List ℕ
    pub behind : List Asked
    pub values : vs ≡ sofar ++ (last ∷ [])
    pub last_is : last ≡ get_or vs (length vs - 1) []
    pub list : out i ts rs ≡ marked W i sofar ++ (asked (file_line n) (W.line last) ∷ behind)
    pub cut : before_burn n (out i ts rs) ≡ marked W i sofar
    pub form : AllInForm (marked W i sofar) rs

  -- the request of line i as the guide has it
  abbrev Stands : ℕ → List ℕ → List ℕ → Type 0
  Stands i t v = line_request address (line_of (values_of digit_val t)) ≡ W.line v

  last_line : (i : ℕ) (t v : List ℕ) → Stands i t v → i ≡ n → (rs : List Reply) → Reach i (t ∷ []) (v ∷ []) rs
  unfolding lines_as lines requests marked before_burn is_burn_mark
  last_line i t v s e [] =
      record { sofar = []; last = v; behind = []; values = refl; last_is = refl; list = rw (s, e); cut = rw (eq-eqb i n e); form = said.none _ }
  last_line i t v s e (r ∷ rs) =
      record {
        sofar = [];
        last = v;
        behind = requests (hear (form_of (line_request address (line_of (values_of digit_val t))) r.kind r.bytes) (λ _. rest)) rs;
        values = refl;
        last_is = refl;
        list = rw (s, e);
        cut = rw (eq-eqb i n e);
        form = said.none _;
      }

  module _ (i : ℕ) (t v t2 v2 : List ℕ) (ts vs : List (List ℕ)) (s : Stands i t v) (other : eqb i n ≡ false) where
    abbrev all : List Reply → List Asked
    all rs = out i (t ∷ t2 ∷ ts) rs

    one_more : (r : Reply) (rs : List Reply) (w : ℕ) → form_of (line_request address (line_of (values_of digit_val t))) r.kind r.bytes ≡ Ok w
        → Reach (i + 1) (t2 ∷ ts) (v2 ∷ vs) rs → Reach i (t ∷ t2 ∷ ts) (v ∷ v2 ∷ vs) (r ∷ rs)
    unfolding lines_as lines requests marked before_burn is_burn_mark hear
    one_more r rs w e x =
        record {
          sofar = v ∷ x.sofar;
          last = x.last;
          behind = x.behind;
          values = ap (λ (l : List (List ℕ)). v ∷ l) x.values;
          last_is = let k : suc (suc (length vs)) - 1 ≡ suc (suc (length vs) - 1) = omega arith in rw k x.last_is;
          list = rw (e, s) (ap (λ (l : List Asked). asked (file_line i) (W.line v) ∷ l) x.list);
          cut = rw (e, other, s) (ap (λ (l : List Asked). asked (file_line i) (W.line v) ∷ l) x.cut);
          form = said.more _ _ r rs w (rw s at e) x.form;
        }

    on_line : (rs : List Reply) → 1 ≤ burns_in n (all rs)
        → ((later : List Reply) → 1 ≤ burns_in n (out (i + 1) (t2 ∷ ts) later) → Reach (i + 1) (t2 ∷ ts) (v2 ∷ vs) later)
        → Reach i (t ∷ t2 ∷ ts) (v ∷ v2 ∷ vs) rs
    unfolding lines_as lines requests burns_in is_burn_mark hear
    on_line [] h go = absurd (let y : ⊥ = omega (arith, rw other at h) in y)
    on_line (r ∷ rs) h go = by_form (form_of (line_request address (line_of (values_of digit_val t))) r.kind r.bytes) refl
      where
        by_form : (x : Result ℕ Misreply) → form_of (line_request address (line_of (values_of digit_val t))) r.kind r.bytes ≡ x
            → Reach i (t ∷ t2 ∷ ts) (v ∷ v2 ∷ vs) (r ∷ rs)
        by_form (Err m) e = absurd (let y : ⊥ = omega (arith, rw (other, e) at h) in y)
        by_form (Ok w) e = one_more r rs w e (go rs (rw (other, e) at h))

  -- each line from number i on has its form
  abbrev Formed : ℕ → List (List ℕ) → Type 0
  Formed i vs = (j : ℕ) → j < length vs → LineForm (i + j) (get_or vs j [])

  stands : (i : ℕ) (t v : List ℕ) (vs : List (List ℕ)) → 5 ≤ i → Spells t v → Formed i (v ∷ vs) → Stands i t v
  stands i t v vs low x f =
      let here : i + 0 ≡ i = omega arith in
      ap (λ (u : List ℕ). line_request address (line_of u)) (spells_values x) ∙ line_out_lem address W right i v low (rw here at (f 0 (omega arith)))

  pub reach : {ts vs : List (List ℕ)} → Spelled ts vs → (i : ℕ) → 5 ≤ i → Formed i vs → i + length vs ≡ n + 1 → 1 ≤ length vs → (rs : List Reply)
      → 1 ≤ burns_in n (out i ts rs) → Reach i ts vs rs
  reach none i low f e some rs h = absurd (let y : ⊥ = omega arith in y)
  reach (line t v _ _ x none) i low f e some rs h = last_line i t v (stands i t v [] low x f) (omega arith) rs
  reach (line t v _ _ x (line t2 v2 ts vs y more)) i low f e some rs h =
      on_line i t v t2 v2 ts vs (stands i t v (v2 ∷ vs) low x f) (ne_eqb i n (omega arith)) rs h λ later g.
      reach (line t2 v2 ts vs y more) (i + 1) (omega arith)
      (λ j k. let next : i + 1 + j ≡ i + suc j = omega arith in rw next (f (suc j) (omega arith))) (omega arith) (omega arith) later g
