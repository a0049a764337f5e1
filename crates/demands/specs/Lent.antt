-- A session begun with any summary, and lent any text at each call (document 02, R-3): what holds although the summary may be of another
-- text. Every call ends and stays in bounds besides, since no promise has a premise. Assumes nothing.
use Rattle.std.specs.Prelude.{◌≡◌, ◌⊎◌, ◌↔◌, true, cond, List, [], ◌∷◌, ◌++◌, ℕ, suc, ◌+◌, ◌*◌, ◌≤◌, ◌<◌, length, Ok, Some}
use Rattle.counts.specs.declared.LineNumber.{LineNumber}
use Rattle.line.specs.declared.Line.{Line}
use Rattle.line.specs.Reading.{next_line}
use Rattle.summary.specs.declared.Summary.{Summary}
use Rattle.summary.specs.Burn.{is_burn}
use Rattle.bus.specs.declared.Request.{Request}
use Rattle.bus.specs.Bus.{write_of, word_bytes}
use Rattle.bus.specs.ReplyForm.{form_of}
use Rattle.guide.specs.declared.Verdict.{Verdict}
use Rattle.guide.specs.declared.Words.{Words}
use Rattle.guide.specs.Judged.{cleared}
use Rattle.guide.specs.Requests.{point_to, read_data, read_block, line_request}
use Rattle.guide.specs.Wire.{burn_to}
use Rattle.guide.specs.Statements.{same_bytes}
use Rattle.guide.specs.Plan.{Reply}
use Rattle.guide.specs.Guide.{target_of, id_in}
use Rattle.guide.specs.Matched.{asked_in, opening, Matched}
use Rattle.session.specs.declared.Settings.{Settings}
use Rattle.session.specs.declared.Session.{Session}
use Rattle.session.specs.declared.Handed.{Handed}
use Rattle.session.specs.declared.Stage.TheVariants.{Open}
use Rattle.session.specs.declared.Awaited.{Awaited}
use Rattle.session.specs.declared.Answer.{Answer}
use Rattle.session.specs.declared.Answer.TheVariants.{Next, Over, BadState}
use Rattle.session.specs.Terms.{keeping}
use Rattle.session.specs.Begin.{begin_with}
use Rattle.session.specs.Reply.{reply_of}
use Rattle.demands.specs.Runs.{put_out, sent, after}
use Rattle.demands.specs.Headline.{Keeps}
use Rattle.demands.specs.Exactly.{zeros, Due}
use Rattle.demands.specs.Addresses.{ToTheAddress}

-- ---- the run

-- the text that is lent, and the reply
pub record Call : Type 0 where
  pub text : List ℕ
  pub reply : Reply

abbrev pub called : Session → Call → Handed
called s c = reply_of c.text s c.reply.kind c.reply.bytes

-- the requests put out, from what was handed back on
unfoldable pub sent_over : Handed → List Call → List Request
sent_over h [] = put_out h.request
sent_over h (c ∷ cs) = put_out h.request ++ sent_over (called h.session c) cs

-- what is handed back last
unfoldable pub after_over : Handed → List Call → Handed
after_over h [] = h
after_over h (c ∷ cs) = after_over (called h.session c) cs

-- a reply that is answered with 15 leaves the session where it was, and is not taken
unfoldable pub taken_by : Answer → Reply → List Reply
taken_by Next r = r ∷ []
taken_by (Over v) r = r ∷ []
taken_by BadState r = []

unfoldable pub taken_over : Handed → List Call → List Reply
taken_over h [] = []
taken_over h (c ∷ cs) = taken_by (called h.session c).answer c.reply ++ taken_over (called h.session c) cs

-- ---- what a call puts out

-- the requests of the guide's own, which hold nothing of the text
pub data Own (S : Settings) (f : Summary) : Request → Type 0 where
  capture : Own S f (point_to S.address 0xA2 0x00)
  word : Own S f (read_data S.address)
  back : (w : ℕ) → Own S f (write_of S.address 0xC5 (word_bytes (cleared w)))
  apply : Own S f (write_of S.address 0xE7 (0x02 ∷ 0x00 ∷ []))
  counter : Own S f (point_to S.address 0x35 0x00)
  identity : Own S f (read_block S.address 0xAD)
  flag : Own S f (point_to S.address 0x87 0xBD)
  revision : Own S f (read_block S.address 0xAE)
  status : Own S f (point_to S.address 0x7E 0x00)
  banks : Own S f (point_to S.address 0x7F 0x00)
  restore : (N : ℕ) → N < f.configs → Own S f (write_of S.address S.restore (id_in f N ∷ []))
  crc : Own S f (point_to S.address 0x94 0x00)

-- the line that is due: this reply came in form, the line of this number is due then, and it is what stands at the held place of the text
-- that this call lends; line n and no other is the burn
pub record DueLine (s : Session) (c : Call) (q : Request) : Type 0 where
  pub awaited : Awaited
  pub stage : s.stage ≡ Open awaited
  pub word : ℕ
  pub form : form_of s.hand c.reply.kind c.reply.bytes ≡ Ok word
  pub number : LineNumber
  pub due : Due s word awaited number
  pub line : Line
  pub next : ℕ
  pub reads : next_line number s.position.place c.text ≡ Ok (Some (line, next))
  pub burn : (is_burn line ≡ true) ↔ (number.0 ≡ s.file.lines)
  pub goes : q ≡ line_request s.settings.address line

-- of any state, handed out or not: nothing else is put out, and a call that puts nothing out hands back zeros
pub record PutsOut (s : Session) (c : Call) : Type 0 where
  pub puts : (called s c).answer ≡ Next → Own s.settings s.file (called s c).request ⊎ DueLine s c (called s c).request
  pub silent : ((called s c).answer ≡ Next → ⊥) → (called s c).request ≡ zeros

-- how many of these requests have the bytes of this one
unfoldable pub times : Request → List Request → ℕ
times b [] = 0
times b (q ∷ qs) = cond (same_bytes q.bytes b.bytes) (suc (times b qs)) (times b qs)

-- ---- of any settings, any summary, and any calls behind the beginning

module _ (S : Settings) (f : Summary) (cs : List Call) where
  abbrev pub out : List Request
  out = sent_over (begin_with S f) cs

  abbrev pub last : Handed
  last = after_over (begin_with S f) cs

  pub record WhateverIsLent : Type 0 where
    -- settings and summary are those that it was begun with; a refused start holds zeros
    pub settings : last.session.settings ≡ S
    pub file : 1 ≤ length out → last.session.file ≡ f
    -- the reported count is the length of the list, and never passes the bound
    pub counts : last.session.sent ≡ length out
    pub bound : length out ≤ f.lines + S.limit + 3 * f.configs + 9
    -- every request is for the device in use
    pub address : ToTheAddress S.address out
    -- the burn is put out once at most, and the reported mark is whether it was
    pub once : times (burn_to S.address) out ≤ 1
    pub reports : (last.session.burned ≡ true) ↔ (times (burn_to S.address) out ≡ 1)
    -- a verdict stands, whatever follows
    pub stands : (v : Verdict) → last.answer ≡ Over v → (more : List Call)
        → (after_over (begin_with S f) (cs ++ more) ≡ last) × (sent_over (begin_with S f) (cs ++ more) ≡ out)
    -- the call behind these puts out nothing but the due line of the text that it lends or a request of the guide's own
    pub puts : (c : Call) → (called last.session c).answer ≡ Next
        → Own S f (called last.session c).request ⊎ DueLine last.session c (called last.session c).request
    -- the replies taken matched what the summary says, or no line is out: what was put out is a beginning of steps 1 and 2
    pub unless : ((kept : ℕ) × Keeps S.rule kept × Matched (keeping kept S) (target_of f) (taken_over (begin_with S f) cs))
        ⊎ ((captured : ℕ) × (read : Words) × (rest : List Request) × (asked_in (opening S.address S.wanted captured read) ≡ out ++ rest))

-- ---- with one text throughout it is the run of Runs.antt

abbrev pub lending : List ℕ → Reply → Call
lending text r = record { text = text; reply = r }

unfoldable pub lent : List ℕ → List Reply → List Call
lent text [] = []
lent text (r ∷ rs) = lending text r ∷ lent text rs

pub record OneText (text : List ℕ) (h : Handed) (rs : List Reply) : Type 0 where
  pub requests : sent_over h (lent text rs) ≡ sent text h rs
  pub last : after_over h (lent text rs) ≡ after text h rs
