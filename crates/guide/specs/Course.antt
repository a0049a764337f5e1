-- How a session goes, for any replies: what it tells and what was put out (document 01, "The session"), said on the replies, the words
-- read and what the file holds; with no tree, no state and no definition that judges. No promise cites this page:
-- proofs/CourseExactly.antt shows that the guide goes so for any replies and in no other way. Assumes nothing.
use Rattle.std.specs.Prelude.{◌≡◌, ◌⊎◌, List, [], ◌∷◌, ◌++◌, ℕ, zero, suc, ◌+◌, ◌/◌, ◌%◌, ◌^◌, ◌≤◌, ◌<◌, length, get_or}
use Rattle.promise.specs.First.{First}
use Rattle.line.specs.declared.Line.{Line}
use Rattle.summary.specs.declared.Summary.{Summary}
use Rattle.bus.specs.declared.Request.{Request}
use Rattle.bus.specs.Bus.{write_of}
use Rattle.guide.specs.declared.Target.{Target}
use Rattle.guide.specs.declared.Words.{Words}
use Rattle.guide.specs.Numbers.{verdict_told}
use Rattle.guide.specs.Terms.{Terms}
use Rattle.guide.specs.Plan.{Reply, Outcome, waiting as unfinished, ended, requests, verdict, bare}
use Rattle.guide.specs.Requests.{point_to, read_data, line_request}
use Rattle.guide.specs.Guide.{target_of, id_in, crc_in, write_lines_of, guide_for}
use Rattle.guide.specs.Matched.{Exchange, wrote, got, Heard, asked_in, opening, Fits}
use Rattle.guide.specs.Verdicts.{ReplyTable, FitTable}

-- ---- what a file holds for a session

pub record Config : Type 0 where
  pub id : ℕ
  pub crc : ℕ

pub record Content : Type 0 where
  pub target : Target
  -- the write lines 5 to n, as they go out
  pub lines : List Request
  -- N is the place in this list, counted from 0
  pub configs : List Config

-- ---- the exchanges of steps 3, 4 and 6

unfoldable pub heard3 : List Request → List Exchange
heard3 [] = []
heard3 (q ∷ qs) = wrote q ∷ heard3 qs

-- the status reads, one after the other
unfoldable pub heard4 : ℕ → List ℕ → List Exchange
heard4 address [] = []
heard4 address (w ∷ ws) = got (read_data address) w ∷ heard4 address ws

-- of one configuration: this CRC was read
abbrev pub heard_config : Terms → Config → ℕ → List Exchange
heard_config T c crc =
    wrote (write_of T.address T.restore (c.id ∷ [])) ∷ wrote (point_to T.address 0x94 0x00) ∷ got (read_data T.address) crc ∷ []

-- of some: each CRC read is the file's
unfoldable pub heard6 : Terms → List Config → List Exchange
heard6 T [] = []
heard6 T (c ∷ cs) = heard_config T c c.crc ++ heard6 T cs

-- ---- what is read, and when it passes

pub record Said : Type 0 where
  -- step 1, where it is wanted, and step 2
  pub captured : ℕ
  pub read : Words
  -- step 4: the statuses before the last, and the last; step 5
  pub busy : List ℕ
  pub last : ℕ
  pub banks : ℕ

-- statuses with bit 0 clear, and a poll left behind them
pub record Polling (limit : ℕ) (busy : List ℕ) : Type 0 where
  pub clear : (i : ℕ) → i < length busy → get_or busy i 0 % 2 ≡ 0
  pub within : length busy < limit

-- bank b is bits 4b+3 to 4b: banks 0 to k - 1 are 0001, the others of eight 0000
pub record RightBanks (k word : ℕ) : Type 0 where
  pub used : (b : ℕ) → b < k → word / 16 ^ b % 16 ≡ 1
  pub unused : (b : ℕ) → k ≤ b → b < 8 → word / 16 ^ b % 16 ≡ 0

-- what a host is told: nothing yet, or a verdict's number with its N
pub data Now : Type 0 where
  waiting : Now
  over : ℕ → ℕ → Now

-- of these exchanges, those come first, and then this is asked
pub data Next : List Exchange → List Exchange → Request → Type 0 where
  here : (x : Exchange) (ys : List Exchange) → Next (x ∷ ys) [] x.request
  there : (x : Exchange) (ys xs : List Exchange) (q : Request) → Next ys xs q → Next (x ∷ ys) (x ∷ xs) q

module _ (T : Terms) (c : Content) where
  -- steps 1 and 2; steps 1 to 4, and then these; steps 1 to 5, and then these
  abbrev pub opened : Said → List Exchange
  opened w = opening T.address T.wanted w.captured w.read

  abbrev pub polled : Said → List Exchange → List Exchange
  polled w xs =
      opened w
      ++ (heard3 c.lines ++ (wrote (point_to T.address 0x7E 0x00) ∷ (heard4 T.address w.busy ++ (got (read_data T.address) w.last ∷ xs))))

  abbrev pub shown : Said → List Exchange → List Exchange
  shown w xs = polled w (wrote (point_to T.address 0x7F 0x00) ∷ got (read_data T.address) w.banks ∷ xs)

  -- none of 23 to 28, and a poll left; then none of 29; then none of 30
  pub record Fitting (w : Said) : Type 0 where
    pub fits : Fits c.target T.kept w.read
    pub polling : Polling T.limit w.busy

  pub record Programmed (w : Said) : Type 0 where
    pub fitting : Fitting w
    pub passed : w.last % 64 ≡ 1

  pub record Reported (w : Said) : Type 0 where
    pub programmed : Programmed w
    pub right : RightBanks c.target.configs w.banks

  -- ---- the verdicts that end the session by what was read: after which exchanges, number and N
  pub data Judged : List Exchange → ℕ → ℕ → Type 0 where
    unfit : (w : Said) (m N : ℕ) → First (FitTable c.target T.kept w.read) m N → Judged (opened w) m N
    -- status bits 5..0 not 000001 at the poll that ended: its bit 0 is 1 or the poll limit is used
    PROGRAM : (w : Said) → Fitting w → (w.last % 2 ≡ 1) ⊎ (suc (length w.busy) ≡ T.limit) → (w.last % 64 ≡ 1 → ⊥) → Judged (polled w []) 29 0
    -- banks 0 to k-1 not all 0001, or another not 0000
    BANKS : (w : Said) → Programmed w → (RightBanks c.target.configs w.banks → ⊥) → Judged (shown w []) 30 0
    -- CRC at 0094 is not the file's, with N: those before it are
    MISMATCH : (w : Said) → Reported w → (before : List Config) (x : Config) (behind : List Config) (crc : ℕ) → c.configs ≡ before ++ (x ∷ behind)
        → (crc ≡ x.crc → ⊥) → Judged (shown w (heard6 T before ++ heard_config T x crc)) 31 (length before)
    -- step 6 passed for all N
    DONE : (w : Said) → Reported w → Judged (shown w (heard6 T c.configs)) 0 0

  -- ---- the requests between them

  -- the exchanges up to the next word that is judged, where all words before it passed
  pub data Run : List Exchange → Type 0 where
    steps12 : (w : Said) → Run (opened w)
    steps34 : (w : Said) → Fitting w → Run (polled w [])
    step5 : (w : Said) → Programmed w → Run (shown w [])
    step6 : (w : Said) → Reported w → Run (shown w (heard6 T c.configs))

  -- a request is out: it is next in a run, every one before it was answered in form, and these replies are left
  pub record Out (rs : List Reply) (q : Request) (left : List Reply) : Type 0 where
    pub all : List Exchange
    pub run : Run all
    pub made : List Exchange
    pub next : Next all made q
    pub heard : Heard made rs left

  -- ---- what is told, with the requests put out
  pub data Course (rs : List Reply) : Now → List Request → Type 0 where
    waits : (q : Request) (o : Out rs q []) → Course rs waiting (asked_in o.made ++ (q ∷ []))
    -- 20 to 22, at any request
    refused : (q : Request) (r : Reply) (later : List Reply) (o : Out rs q (r ∷ later)) (m N : ℕ) → First (ReplyTable q r) m N
        → Course rs (over m N) (asked_in o.made ++ (q ∷ []))
    -- 23 to 31, and DONE
    judged : (xs : List Exchange) (left : List Reply) (m N : ℕ) → Heard xs rs left → Judged xs m N → Course rs (over m N) (asked_in xs)

-- ---- the statement: of any replies the guide goes so, and in no other way

unfoldable pub now_of : Outcome → Now
now_of unfinished = waiting
now_of (ended v) = over (verdict_told v).number (verdict_told v).config.0

unfoldable pub line_requests : ℕ → List Line → List Request
line_requests address [] = []
line_requests address (l ∷ ls) = line_request address l ∷ line_requests address ls

-- so many, from N on
unfoldable pub configs_in : Summary → ℕ → ℕ → List Config
configs_in file zero N = []
configs_in file (suc left) N = record { id = id_in file N; crc = crc_in file N } ∷ configs_in file left (N + 1)

abbrev pub content_of : ℕ → Summary → List ℕ → Content
content_of address file text =
    record { target = target_of file; lines = line_requests address (write_lines_of text); configs = configs_in file file.configs 0 }

pub record CourseExactly (T : Terms) (file : Summary) (text : List ℕ) (rs : List Reply) : Type 0 where
  pub goes : Course T (content_of T.address file text) rs (now_of (verdict (guide_for T file text) rs)) (bare (requests (guide_for T file text) rs))
  pub only : (x : Now) (qs : List Request) → Course T (content_of T.address file text) rs x qs
      → (x ≡ now_of (verdict (guide_for T file text) rs)) × (qs ≡ bare (requests (guide_for T file text) rs))
