-- When a reply is 15, and what a verdict leaves (document 01, "The session"), said on the values that are held and without the tests of
-- Sound.antt. No promise cites this page: proofs/ shows each of these. Assumes nothing.
use Rattle.std.specs.Prelude.{ℕ, ◌+◌, ◌*◌, ◌≤◌, ◌<◌, ◌≡◌, true, false, get_or, Ok, Some}
use mathlib.Core.List.{List, [], ◌∷◌, Memᴰ}
use Rattle.counts.specs.declared.LineNumber.{LineNumber}
use Rattle.counts.specs.Counts.{line_number, config_id, line_count}
use Rattle.line.specs.declared.Line.{Line}
use Rattle.line.specs.Reading.{next_line}
use Rattle.summary.specs.declared.Told.{Told}
use Rattle.summary.specs.declared.Summary.{Summary}
use Rattle.summary.specs.Answers.{plain}
use Rattle.summary.specs.Burn.{is_burn}
use Rattle.bus.specs.declared.Request.{Request}
use Rattle.bus.specs.Bus.{codes}
use Rattle.bus.specs.ReplyForm.{form_of}
use Rattle.guide.specs.declared.Verdict.{Verdict}
use Rattle.guide.specs.Guide.{target_of}
use Rattle.guide.specs.Matched.{Fits}
use Rattle.session.specs.declared.Settings.{Settings}
use Rattle.session.specs.declared.Session.{Session}
use Rattle.session.specs.declared.Handed.{Handed}
use Rattle.session.specs.declared.Stage.TheVariants.{Open, Ended}
use Rattle.session.specs.declared.Awaited.{Awaited}
use Rattle.session.specs.declared.Awaited.TheVariants.{RevisionRead, LineOut}
use Rattle.session.specs.declared.Answer.{Answer}
use Rattle.session.specs.declared.Answer.TheVariants.{Next, Over, BadState}
use Rattle.session.specs.Stages.{with_revision}
use Rattle.session.specs.Reports.{report_of}
use Rattle.session.specs.Reply.{reply_of}
use Rattle.demands.specs.Headline.{Keeps}

-- a request of zeros, written out
abbrev pub zeros : Request
zeros = record { bytes = 0x00 ∷ 0x00 ∷ 0x00 ∷ 0x00 ∷ 0x00 ∷ 0x00 ∷ 0x00 ∷ 0x00 ∷ []; used = 0; reads = false }

-- ---- settings

-- a setting that is out of its range, a code of the guide's other commands, a rule other than 1 or 2, or an odd or outlying address: one that
-- is no device's, whose seven bits are 08 to 77 hex and stand before a 0
pub data SettingOut (S : Settings) : Type 0 where
  limit : ((1 ≤ S.limit) × (S.limit ≤ 10000) → ⊥) → SettingOut S
  restore : Memᴰ S.restore codes → SettingOut S
  rule : (S.rule ≡ 1 → ⊥) → (S.rule ≡ 2 → ⊥) → SettingOut S
  address : ((bits : ℕ) → 0x08 ≤ bits → bits ≤ 0x77 → S.address ≡ 2 * bits → ⊥) → SettingOut S

-- ---- a summary

-- k is not 1 to 8, n is not 12 + s x k, or an identifier under k is above 15; nothing else of a summary is looked at
pub data SummaryOut (f : Summary) : Type 0 where
  configs : ((1 ≤ f.configs) × (f.configs ≤ 8) → ⊥) → SummaryOut f
  lines : (f.lines ≡ line_count f.kind f.configs → ⊥) → SummaryOut f
  identifier : (N : ℕ) → N < f.configs → 15 < (get_or f.ids N (config_id 0)).0 → SummaryOut f

-- ---- 15, before the reply is looked at

pub data Spoiled (s : Session) : Type 0 where
  -- a held setting is not allowed
  setting : SettingOut s.settings → Spoiled s
  -- the held summary is out of its bounds
  summary : SummaryOut s.file → Spoiled s
  -- the line in hand is not 5 to n
  line : ((5 ≤ s.position.line.0) × (s.position.line.0 ≤ s.file.lines) → ⊥) → Spoiled s
  -- the configuration in hand is not under k
  config : (s.position.config.0 < s.file.configs → ⊥) → Spoiled s
  -- the polls used are not under the limit
  polls : (s.position.polls < s.settings.limit → ⊥) → Spoiled s
  -- the request count is over n + poll limit + 3 x k + 9
  count : s.file.lines + s.settings.limit + 3 * s.file.configs + 9 < s.sent → Spoiled s

-- ---- 15, when a write line is due

-- line 5 is due when the AE reply came in form and none of 23 to 28 applies, and a later one while the line in hand is before n
pub data Due (s : Session) (word : ℕ) : Awaited → LineNumber → Type 0 where
  first : (kept : ℕ) → Keeps s.settings.rule kept → Fits (target_of s.file) kept (with_revision s.position.read word)
      → Due s word RevisionRead (line_number 5)
  later : s.position.line.0 < s.file.lines → Due s word LineOut (line_number (s.position.line.0 + 1))

-- the text from the held place is no write line, or the burn and not line n, or line n and not the burn
pub data Unfit (text : List ℕ) (s : Session) (n : LineNumber) : Type 0 where
  no_line : ((l : Line) (next : ℕ) → next_line n s.position.place text ≡ Ok (Some (l, next)) → ⊥) → Unfit text s n
  early : (l : Line) (next : ℕ) → next_line n s.position.place text ≡ Ok (Some (l, next)) → is_burn l ≡ true → (n.0 ≡ s.file.lines → ⊥) → Unfit text s n
  late : (l : Line) (next : ℕ) → next_line n s.position.place text ≡ Ok (Some (l, next)) → is_burn l ≡ false → n.0 ≡ s.file.lines → Unfit text s n

-- ---- what a session is handed on as

-- the count is one more exactly where a request is put out, which is then the one in hand; a burn mark that is set stays set;
-- settings and what the file says are kept
pub record Carried (s : Session) (h : Handed) : Type 0 where
  pub counts : h.answer ≡ Next → (h.session.sent ≡ s.sent + 1) × (h.session.hand ≡ h.request)
  pub rests : (h.answer ≡ Next → ⊥) → (h.session.sent ≡ s.sent) × (h.session.burned ≡ s.burned)
  pub burned : s.burned ≡ true → h.session.burned ≡ true
  pub settings : h.session.settings ≡ s.settings
  pub file : h.session.file ≡ s.file

-- ---- of a reply

module _ (text : List ℕ) (s : Session) (kind : ℕ) (bs : List ℕ) where
  abbrev handed : Handed
  handed = reply_of text s kind bs

  -- 15 is given in two places and nowhere else
  pub data Fifteen (g : Awaited) : Type 0 where
    before : Spoiled s → Fifteen g
    due : (word : ℕ) (n : LineNumber) → form_of s.hand kind bs ≡ Ok word → Due s word g n → Unfit text s n → Fifteen g

  pub record FifteenExactly : Type 0 where
    pub only : handed.answer ≡ BadState → (g : Awaited) × (s.stage ≡ Open g) × Fifteen g
    pub when : (g : Awaited) → s.stage ≡ Open g → Fifteen g → handed.answer ≡ BadState
    -- 15 leaves the state as given, and comes with a request of zeros
    pub leaves : handed.answer ≡ BadState → (handed.session ≡ s) × (handed.request ≡ zeros)
    -- it has no line, no place and no N
    pub tells : handed.answer ≡ BadState → report_of handed.answer ≡ Some (plain 15)

  -- a verdict ends the session and comes with a request of zeros; after it, the same verdict, the same state and a request of zeros
  pub record VerdictStands : Type 0 where
    pub ends : (v : Verdict) → handed.answer ≡ Over v → (handed.session.stage ≡ Ended v) × (handed.request ≡ zeros)
    pub stays : (v : Verdict) → s.stage ≡ Ended v → (handed.answer ≡ Over v) × (handed.session ≡ s) × (handed.request ≡ zeros)

  unfoldable pub CarriesOn : Type 0
  CarriesOn = Carried s handed

-- ---- of any answer

-- no report has the number 12 (request R-9)
unfoldable pub NoReport12 : Answer → Type 0
NoReport12 a = (t : Told) → report_of a ≡ Some t → t.number ≡ 12 → ⊥
