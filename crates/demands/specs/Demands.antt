-- Demands 2 and 3, as types that a reviewer can read (what demand 1 asks of refusals is in Exactly.antt). Each speaks of the requests
-- that were put out and of what was handed back last, whoever ran the session; by the bytes of the file's lines, the replies and the
-- words read, without the guide's tree, a state or a definition that judges. Assumes nothing.
use Rattle.std.specs.Prelude.{◌≡◌, ◌⊎◌, ◌↔◌, true, ℕ, zero, suc, ◌+◌, ◌*◌, ◌≤◌, ◌<◌, length, get_or, drop, Option, Some, None}
use mathlib.Core.List.{List, [], ◌∷◌, ◌++◌, Memᴰ}
use Rattle.counts.specs.Counts.{line_number, line_place, config_number}
use Rattle.summary.specs.Answers.{told}
use Rattle.image.specs.Says.{word}
use Rattle.image.specs.Meets.{data_in, crc_bytes, id_digit, Meets}
use Rattle.bus.specs.declared.Request.{Request}
use Rattle.summary.specs.declared.Told.{Told}
use Rattle.guide.specs.declared.Words.{Words}
use Rattle.guide.specs.Terms.{Terms}
use Rattle.guide.specs.Wire.{Wire, burn_to}
use Rattle.guide.specs.Plan.{Reply}
use Rattle.guide.specs.Matched.{asked_in, opening, Matched}
use Rattle.guide.specs.Course.{Config, Content, Now, waiting, over, Course}
use Rattle.session.specs.declared.Settings.{Settings}
use Rattle.session.specs.declared.Handed.{Handed}
use Rattle.session.specs.declared.Answer.TheVariants.{BadState}
use Rattle.session.specs.Reports.{report_of}
use Rattle.demands.specs.Headline.{lines_out, Answered, target_in, Headline}
use Rattle.demands.specs.Runs.{sent, after}

-- ---- what a file holds, by the bytes of its lines

-- so many configurations, from N on: the CRC's lowest byte first
unfoldable pub configs_by : {text : List ℕ} → Meets text → ℕ → ℕ → List Config
configs_by m zero N = []
configs_by m (suc left) N =
    let c = crc_bytes m.meets.laid N in
    record { id = id_digit m.meets.laid N; crc = word (data_in 3 c) (data_in 2 c) (data_in 1 c) (data_in 0 c) } ∷ configs_by m left (N + 1)

abbrev pub content_in : Wire → {text : List ℕ} → Meets text → Content
content_in W m = record { target = target_in m; lines = lines_out W (drop 4 m.values); configs = configs_by m m.meets.laid.configs 0 }

-- what is reported: a verdict has no line and no place
abbrev pub report_for : Now → Option Told
report_for waiting = None
report_for (over m N) = Some (told m (line_number 0) (line_place 0) (config_number N))

-- by what is on the wire, the guide's terms, a text that meets the document, and the replies: of what was put out, and of what was handed
-- back last
module _ (W : Wire) (T : Terms) {text : List ℕ} (m : Meets text) (rs : List Reply) (out : List Request) (last : Handed) where
  -- ---- demand 2: each request and each verdict are what the steps give for the replies so far, and nothing else is
  pub record Demand2 : Type 0 where
    pub now : Now
    pub tells : report_of last.answer ≡ report_for now
    pub goes : Course T (content_in W m) rs now out
    pub only : (x : Now) (qs : List Request) → Course T (content_in W m) rs x qs → (x ≡ now) × (qs ≡ out)

  -- the requests of steps 1 and 2, with the words that matched
  abbrev pub opens : Matched T (target_in m) rs → List Request
  opens w = asked_in (opening T.address T.wanted w.captured w.read)

  -- ---- demand 3
  pub record Demand3 : Type 0 where
    -- 15 is never met
    pub never15 : last.answer ≡ BadState → ⊥
    -- the requests put out are, in order, a beginning of the guide's list for these replies and any that follow
    pub beginning : (later : List Reply) → (x : Now) × (rest : List Request) × Course T (content_in W m) (rs ++ later) x (out ++ rest)
    -- no write line unless they matched: what was put out is a beginning of steps 1 and 2
    pub unless : Matched T (target_in m) rs
        ⊎ ((captured : ℕ) × (read : Words) × (rest : List Request) × (asked_in (opening T.address T.wanted captured read) ≡ out ++ rest))
    -- if they matched, the first write line is next
    pub next : (w : Matched T (target_in m) rs)
        → (first : Request) × (lines : List Request) × (rest : List Request) × (lines_out W (drop 4 m.values) ≡ first ∷ lines) × (out ≡ opens w ++ (first ∷ rest))
    -- the burn, which is line n, once if they matched and every earlier request was answered in form
    pub once : (lines : List Request) × (lines_out W (drop 4 m.values) ≡ lines ++ (W.burn ∷ []))
        × ((w : Matched T (target_in m) rs) → Answered (opens w ++ lines) rs → (behind : List Request) × (out ≡ (opens w ++ lines) ++ (W.burn ∷ behind)))
    -- otherwise never, and never twice
    pub never : Headline W T text rs out
    -- the reported count is the length of the list, and the reported burn is whether it is there
    pub counts : last.session.sent ≡ length out
    pub reports : (last.session.burned ≡ true) ↔ Memᴰ W.burn out
    -- at most lines + poll limit + 3 x configurations + 9
    pub bound : length out ≤ length m.values + T.limit + 3 * m.meets.laid.configs + 9

-- a reply that a bus can give: its kind and its bytes are bytes
pub record OfBytes (r : Reply) : Type 0 where
  pub kind : r.kind < 256
  pub bytes : (i : ℕ) → get_or r.bytes i 0 < 256

-- ---- not empty: there are replies with which the session ends DONE with the burn put out
pub record CanEnd (S : Settings) (text : List ℕ) (h : Handed) : Type 0 where
  pub replies : List Reply
  pub possible : (r : Reply) → Memᴰ r replies → OfBytes r
  pub done : report_of (after text h replies).answer ≡ report_for (over 0 0)
  pub burned : Memᴰ (burn_to S.address) (sent text h replies)
