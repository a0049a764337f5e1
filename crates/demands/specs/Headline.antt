-- The headline: why this fixture may send the last line. It stands alone: no tree and no state, only the requests that were put out,
-- the text, the terms that the settings make, and the replies. It is read with what is on the wire (crate guide, Wire): for the address in
-- use, or at C0 as document 01 has it. Assumes nothing.
use Rattle.std.specs.Prelude.{◌≡◌, ℕ, ◌%◌, ◌≤◌, drop}
use mathlib.Core.List.{List, [], ◌∷◌, ◌++◌, Memᴰ}
use Rattle.image.specs.Says.{word}
use Rattle.image.specs.Meets.{data_in, numbered, Meets}
use Rattle.bus.specs.declared.Request.{Request}
use Rattle.bus.specs.Bus.{codes}
use Rattle.bus.specs.InForm.{InForm}
use Rattle.guide.specs.declared.Target.{Target}
use Rattle.guide.specs.Terms.{Terms}
use Rattle.guide.specs.Wire.{Wire}
use Rattle.guide.specs.Plan.{Reply}
use Rattle.guide.specs.Matched.{asked_in, opening, Matched}

-- lines of the file on the wire, by their values
unfoldable pub lines_out : Wire → List (List ℕ) → List Request
lines_out W [] = []
lines_out W (v ∷ vs) = W.line v ∷ lines_out W vs

-- each of these requests has its reply, in form
pub data Answered : List Request → List Reply → Type 0 where
  none : (rs : List Reply) → Answered [] rs
  more : (q : Request) (qs : List Request) (r : Reply) (rs : List Reply) (w : ℕ) → InForm q r.kind r.bytes w → Answered qs rs
      → Answered (q ∷ qs) (r ∷ rs)

-- poll limit 1 to 10,000; RESTORE_CFG is none of C5, C6, C7, E7, AD, AE; the address is even, 10 to EE hex (document 02, R-2)
pub record Allowed (T : Terms) : Type 0 where
  pub some : 1 ≤ T.limit
  pub few : T.limit ≤ 10000
  pub code : Memᴰ T.restore codes → ⊥
  pub even : T.address % 2 ≡ 0
  pub low : 0x10 ≤ T.address
  pub high : T.address ≤ 0xEE

-- the device's places that a house rule keeps free: none under rule 1, two under rule 2, and there is no other rule (document 02, R-13)
pub data Keeps : ℕ → ℕ → Type 0 where
  rule1 : Keeps 1 0
  rule2 : Keeps 2 2

-- what a file asks of its device: the kind that its revision names, the identity of line 1, and a place for each configuration
abbrev pub target_in : {text : List ℕ} → Meets text → Target
target_in m =
    let one = numbered m.values 1 in
    record {
      kind = m.meets.laid.kind;
      identity = word (data_in 0 one) (data_in 1 one) (data_in 2 one) (data_in 3 one);
      configs = m.meets.laid.configs;
    }

-- by what is on the wire, the terms, the text, the replies, and the requests put out
module _ (W : Wire) (T : Terms) (text : List ℕ) (rs : List Reply) (out : List Request) where
  pub record MayBurn : Type 0 where
    pub meets : Meets text
    pub allowed : Allowed T
    pub matched : Matched T (target_in meets) rs
    -- lines 5 to n - 1, and line n
    pub lines : List (List ℕ)
    pub last : List ℕ
    pub the_file : drop 4 meets.values ≡ lines ++ (last ∷ [])
    pub line_n : W.line last ≡ W.burn
    -- exactly the requests of steps 1 and 2 went out, then all lines 5 to n - 1, in order, then the burn
    pub behind : List Request
    pub order : out ≡ asked_in (opening T.address T.wanted matched.captured matched.read) ++ (lines_out W lines ++ (W.burn ∷ behind))
    -- every earlier request was answered in form
    pub earlier : Answered (asked_in (opening T.address T.wanted matched.captured matched.read) ++ lines_out W lines) rs
    -- it went out once
    pub not_before : Memᴰ W.burn (asked_in (opening T.address T.wanted matched.captured matched.read) ++ lines_out W lines) → ⊥
    pub not_behind : Memᴰ W.burn behind → ⊥

  -- if the burn was put out, it was allowed to be
  unfoldable pub Headline : Type 0
  Headline = Memᴰ W.burn out → MayBurn
