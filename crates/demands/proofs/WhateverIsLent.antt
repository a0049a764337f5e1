-- What holds of a session begun with any summary and lent any text at each call. Assumes nothing.
use Prim.Native.Nat.{ℕ, ◌+◌, ◌*◌, ◌≤◌}
use mathlib.Core.Path.{◌≡◌, refl, sym, ap, subst, ◌∙◌}
use mathlib.Core.Logic.{◌⊎◌, inl, inr, ◌↔◌}
use mathlib.Core.Bool.{Bool, true, false, cond, true≢false}
use mathlib.Core.List.Memᴰ
use mathlib.Core.List.{List, [], ◌∷◌, ◌++◌, append_assoc, append-nil, Memᴰ}
use native.Mathlib.Omega.{arith}
use lib.ListN.{length, length-append}
use borrow.Author.Tests.{leb-true}
use Rattle.std.specs.Prelude.{Result, Ok, Err}
use Rattle.promise.proofs.Basics.{split}
use Rattle.summary.specs.declared.Summary.{Summary}
use Rattle.bus.specs.declared.Request.{Request}
use Rattle.bus.specs.declared.Misreply.{Misreply}
use Rattle.bus.specs.Bus.{eight, framed, write_of, read_of, no_request}
use Rattle.bus.specs.ReplyForm.{form_of}
use Rattle.guide.specs.declared.Verdict.{Verdict}
use Rattle.guide.specs.declared.Verdict.TheVariants.{Setting, State}
use Rattle.counts.specs.Counts.{first_line}
use Rattle.guide.specs.Requests.{point_to, line_request}
use Rattle.guide.specs.declared.Words.{Words}
use Rattle.guide.specs.Wire.{burn_to}
use Rattle.guide.specs.Plan.{Reply}
use Rattle.guide.specs.Guide.{target_of}
use Rattle.guide.specs.Matched.{Exchange, none, asked_in, opening, Matched}
use Rattle.session.specs.declared.Settings.{Settings}
use Rattle.session.specs.declared.Session.{Session}
use Rattle.session.specs.declared.Handed.{Handed}
use Rattle.session.specs.declared.Stage.{Stage}
use Rattle.session.specs.declared.Stage.TheVariants.{Open, Ended}
use Rattle.session.specs.declared.Awaited.{Awaited}
use Rattle.session.specs.declared.Awaited.TheVariants.{CaptureAt, CounterAt}
use Rattle.session.specs.declared.Answer.{Answer}
use Rattle.session.specs.declared.Answer.TheVariants.{Next, Over}
use Rattle.session.specs.Moves.{with_stage, with_sent, put_of, end_of, bad_of, over_of}
use Rattle.session.specs.Sound.{allowed_of, file_sound, setting_tests, most_sent, sound_of}
use Rattle.session.specs.Terms.{kept_of, keeping}
use Rattle.session.specs.Begin.{no_words, new_position, fresh_of, first_of, start_of, refused_of, begin_with}
use Rattle.session.specs.Reply.{replied_of, stage_of, reply_of}
use Rattle.session.proofs.Laws.{when_ended, begin_sound, begin_unsound, begin_out}
use Rattle.session.proofs.Tests.{all_at}
use Rattle.demands.specs.Runs.{put_out, sent, after}
use Rattle.demands.specs.Headline.{Keeps}
use Rattle.demands.specs.Addresses.{GoesTo}
use Rattle.demands.specs.Exactly.{zeros, CarriesOn}
use Rattle.demands.specs.Lent.{Call, called, sent_over, after_over, taken_by, taken_over, Own, capture, word, back, apply, counter, identity, flag, revision, status, banks, restore, crc, times, WhateverIsLent, lent, OneText}
use Rattle.demands.proofs.Cases.{next_over}
use Rattle.demands.proofs.EveryStep.{by, Kept, Step, step_every}
use Rattle.demands.proofs.SettingsSay.{allowed_is, not_reserved, held_rule}
use Rattle.demands.proofs.FitsCall.{put_out_some}
use Rattle.demands.proofs.BeginsSo.{begins_with}
use Rattle.demands.proofs.CarriesOn.{carries_on}
use Rattle.demands.proofs.FifteenExactly.{verdict_stands}
use Rattle.demands.proofs.PutsOut.{held, Out, step_out, puts_out}
use Rattle.demands.proofs.BurnLent.{own_no_burn, own_goes, Quiet, QuietAt, Burns, first_times, burns_on}
use Rattle.demands.proofs.WhereLent.{before2, Opened, Where, GateBy, Gate, gate, within, gate_later}
use Rattle.demands.proofs.StaysLent.{stays}

-- ---- what is put out is no request of zeros

write_used : (address command : ℕ) (bs : List ℕ) → 1 ≤ (write_of address command bs).used
unfolding write_of framed
write_used address command bs = omega arith

read_used : (address command count : ℕ) → 1 ≤ (read_of address command count).used
unfolding read_of
read_used address command count = omega arith

own_used : {S : Settings} {f : Summary} {q : Request} → Own S f q → 1 ≤ q.used
own_used capture = write_used _ _ _
own_used word = read_used _ _ _
own_used (back w) = write_used _ _ _
own_used apply = write_used _ _ _
own_used counter = write_used _ _ _
own_used identity = read_used _ _ _
own_used flag = write_used _ _ _
own_used revision = read_used _ _ _
own_used status = write_used _ _ _
own_used banks = write_used _ _ _
own_used (restore N h) = write_used _ _ _
own_used crc = write_used _ _ _

out_used : (s : Session) (c : Call) (q : Request) → Out s c q → 1 ≤ q.used
unfolding line_request
out_used s c q (inl o) = own_used o
out_used s c q (inr d) = rw d.goes (write_used _ _ _)

-- ---- where a session stands, open or ended

module _ (s : Session) (rs : List Reply) (out : List Request) where
  unfoldable AtStage : Stage → Type 0
  AtStage (Open g) = Where s rs out g
  AtStage (Ended v) = Gate s rs out × (s.sent ≤ most_sent s)

  record Stands : Type 0 where
    counts : s.sent ≡ length out
    at : AtStage s.stage
    burns : Burns s out

  stage_gate : (g : Stage) → AtStage g → Gate s rs out
  unfolding AtStage
  stage_gate (Open g) x = gate s rs out g x
  stage_gate (Ended v) x = x.0

  stage_within : (g : Stage) → AtStage g → s.sent ≤ most_sent s
  unfolding AtStage
  stage_within (Open g) x = within s rs out g x
  stage_within (Ended v) x = x.1

-- ---- a call

module _ (s : Session) (rs : List Reply) (out : List Request) (x : Stands s rs out) (c : Call) where
  -- what is shown of what it hands back
  abbrev Shown : Handed → Type 0
  Shown h = Stands h.session (rs ++ taken_by h.answer c.reply) (out ++ put_out h.request)

  put_shown : (w : ℕ) → form_of s.hand c.reply.kind c.reply.bytes ≡ Ok w → sound_of s ≡ true → (g : Awaited) → s.stage ≡ Open g → Where s rs out g
      → (t : Session) → Kept s t → (next : Awaited) (q : Request) → Step c.text s w g t next q → Shown (put_of t next q)
  unfolding put_of with_sent with_stage taken_by AtStage QuietAt
  put_shown w f ok g o at t k next q step =
      let one : put_out q ≡ q ∷ [] = put_out_some q (out_used s c q (step_out s c (held s ok) w f g o t next q step)) in
      rw one
      (record {
        counts = rw (length-append out (q ∷ [])) (omega (arith, k.sent, x.counts));
        at = stays s rs out c.reply w (held s ok) f c.text g t next q step at;
        burns = burns_on s out ok x.burns c.text w g (subst (QuietAt s) o x.burns.quiet) t next q step;
      })

  end_shown : (v : Verdict) → Shown (end_of s v)
  unfolding end_of with_stage taken_by AtStage QuietAt put_out no_request most_sent
  end_shown v =
      rw (append-nil out)
      (record {
        counts = x.counts;
        at = (gate_later s rs out (c.reply ∷ []) (stage_gate s rs out s.stage x.at), stage_within s rs out s.stage x.at);
        burns = record { counts = x.burns.counts; quiet = tt; goes = x.burns.goes };
      })

  over_shown : (v : Verdict) → s.stage ≡ Ended v → Shown (over_of s v)
  unfolding over_of taken_by AtStage put_out no_request
  over_shown v e =
      rw (append-nil out)
      (record {
        counts = x.counts;
        at = rw e (gate_later s rs out (c.reply ∷ []) (stage_gate s rs out s.stage x.at), stage_within s rs out s.stage x.at);
        burns = x.burns;
      })

  bad_shown : Shown (bad_of s)
  unfolding bad_of taken_by put_out no_request
  bad_shown = rw (append-nil rs, append-nil out) x

  replied_shown : sound_of s ≡ true → (g : Awaited) → s.stage ≡ Open g → Where s rs out g → (f : Result ℕ Misreply) → form_of s.hand c.reply.kind c.reply.bytes ≡ f
      → Shown (replied_of c.text s g f)
  unfolding replied_of
  replied_shown ok g o at (Err m) e = end_shown _
  replied_shown ok g o at (Ok w) e =
      step_every c.text s (held_rule s ok) w (λ k h. s.stage ≡ Open k → Where s rs out k → Shown h)
      (λ k t kept next q step p z. put_shown w e ok k p z t kept next q step) (λ k v p z. end_shown v) (λ k n d u p z. bad_shown) g o at

  open_shown : (g : Awaited) → s.stage ≡ Open g → Where s rs out g → (b : Bool) → sound_of s ≡ b
      → Shown (cond b (replied_of c.text s g (form_of s.hand c.reply.kind c.reply.bytes)) (bad_of s))
  open_shown g o at true e = replied_shown e g o at _ refl
  open_shown g o at false e = bad_shown

  stage_shown : (g : Stage) → s.stage ≡ g → AtStage s rs out g → Shown (stage_of c.text s c.reply.kind c.reply.bytes g)
  unfolding stage_of AtStage
  stage_shown (Open g) o at = open_shown g o at (sound_of s) refl
  stage_shown (Ended v) o at = over_shown v o

  call_shown : Shown (called s c)
  unfolding reply_of
  call_shown = stage_shown s.stage refl x.at

-- ---- the calls, one behind the other

along : (cs : List Call) (h : Handed) (rs : List Reply) (out : List Request) → Stands h.session rs (out ++ put_out h.request)
    → Stands (after_over h cs).session (rs ++ taken_over h cs) (out ++ sent_over h cs)
unfolding after_over taken_over sent_over
along [] h rs out x = rw (append-nil rs) x
along (c ∷ cs) h rs out x =
    let t = called h.session c in
    let y = along cs t (rs ++ taken_by t.answer c.reply) (out ++ put_out h.request) (call_shown h.session rs _ x c) in
    rw (← append_assoc rs (taken_by t.answer c.reply) (taken_over t cs), ← append_assoc out (put_out h.request) (sent_over t cs)) y

-- ---- the beginning

-- step 1 was not wanted, so nothing is heard before step 2
unwanted : (address : ℕ) (b : Bool) → b ≡ false → before2 address b 0 ++ [] ≡ []
unfolding before2
unwanted address true e = absurd (true≢false e)
unwanted address false e = refl

module _ (S : Settings) (f : Summary) where
  abbrev Begins : Handed → Type 0
  Begins h = Stands h.session [] (put_out h.request)

  refused_stands : (v : Verdict) → Begins (refused_of S v)
  unfolding refused_of fresh_of over_of put_out no_request AtStage QuietAt times
  refused_stands v =
      record {
        counts = refl;
        at = (inr (0, no_words, _, refl), omega arith);
        burns = record { counts = refl; quiet = tt; goes = λ q m. absurd (Memᴰ.not-nil m) };
      }

  -- before the first request
  abbrev new : Session
  new = fresh_of S f (Open CaptureAt) (new_position first_line f.line5)

  -- a first request, with nothing heard
  first : 1 ≤ S.limit → (g : Awaited) (q : Request) (most : ℕ) → 1 ≤ most → (xs : List Exchange) → xs ≡ []
      → Opened (put_of new g q).session [] (q ∷ []) most xs q
  unfolding fresh_of new_position put_of with_sent with_stage asked_in
  first some g q most h xs e =
      rw e
      (record { heard = none []; asked = refl; hand = refl; few = omega (arith, h); line = refl; config = refl; polls = refl; some = some })

  first_burns : allowed_of S ≡ true → (g : Awaited) (q : Request) → Own S f q → Quiet (put_of new g q).session g → Burns (put_of new g q).session (q ∷ [])
  unfolding fresh_of new_position put_of with_sent with_stage QuietAt
  first_burns e g q o quiet =
      let a = allowed_is S e 0 in
      record { counts = first_times S.address q (own_no_burn S f (not_reserved (keeping 0 S) a) q o); quiet = quiet; goes = own_goes S f a.high q o }

  start_stands : allowed_of S ≡ true → Begins (start_of S f)
  unfolding start_of first_of fresh_of new_position put_of with_sent with_stage AtStage Where Quiet allowed_of setting_tests
  start_stands e =
      let a = S.address in
      let some : 1 ≤ S.limit = leb-true 1 S.limit (all_at (setting_tests S) 0 e) in
      by Begins S.wanted (put_of new CaptureAt (point_to a 0xA2 0x00)) (put_of new CounterAt (point_to a 0x35 0x00))
      (λ w. rw (put_out_some (point_to a 0xA2 0x00) (write_used _ _ _))
      (record { counts = refl; at = (w, first some CaptureAt _ 1 (omega arith) [] refl); burns = first_burns e CaptureAt _ capture refl }))
      (λ w. rw (put_out_some (point_to a 0x35 0x00) (write_used _ _ _))
      (record {
        counts = refl;
        at = (0, record { opened = first some CounterAt _ 5 (omega arith) _ (unwanted a S.wanted w) });
        burns = first_burns e CounterAt _ counter refl;
      }))

  begin_stands : Begins (begin_with S f)
  begin_stands =
      split (allowed_of S)
      (λ a. split (file_sound f) (λ e. rw (← begin_sound S f a e) (start_stands a)) (λ e. rw (← begin_unsound S f a e) (refused_stands State)))
      (λ a. rw (← begin_out S f a) (refused_stands Setting))

  -- what it was begun with is carried along
  abbrev With : Session → Type 0
  With s = (s.settings ≡ S) × (s.file ≡ f)

  with_along : (cs : List Call) (h : Handed) → With h.session → With (after_over h cs).session
  unfolding after_over CarriesOn
  with_along [] h w = w
  with_along (c ∷ cs) h w =
      let x = carries_on c.text h.session c.reply.kind c.reply.bytes in
      with_along cs (called h.session c) (x.settings ∙ w.0, x.file ∙ w.1)

  start_with : With (start_of S f).session
  unfolding start_of first_of fresh_of put_of with_sent with_stage
  start_with = by (λ (h : Handed). With h.session) S.wanted _ _ (λ e. (refl, refl)) (λ e. (refl, refl))

-- ---- a verdict stands

-- what it comes with, wherever it is handed back
abbrev Told : Handed → Type 0
Told h = (v : Verdict) → h.answer ≡ Over v → (h.session.stage ≡ Ended v) × (h.request ≡ zeros)

begin_told : (S : Settings) (f : Summary) → Told (begin_with S f)
begin_told S f v e = let x = (begins_with S f).refused v e in (x.0, x.3)

call_told : (s : Session) (c : Call) → Told (called s c)
call_told s c = (verdict_stands c.text s c.reply.kind c.reply.bytes).ends

rebuilt : (h : Handed) (q : Request) (a : Answer) → h.request ≡ q → h.answer ≡ a → ◌≡◌ {A = Handed} (record { session = h.session; request = q; answer = a }) h
rebuilt h q a e f = rw (← e, ← f) refl

-- the same is handed back
again : (h : Handed) → Told h → (v : Verdict) → h.answer ≡ Over v → (c : Call) → called h.session c ≡ h
unfolding over_of no_request eight
again h t v e c = sym (when_ended c.text h.session c.reply.kind c.reply.bytes v (t v e).0) ∙ rebuilt h zeros (Over v) (t v e).1 e

still : (more : List Call) (h : Handed) → Told h → (v : Verdict) → h.answer ≡ Over v → (after_over h more ≡ h) × (sent_over h more ≡ put_out h.request)
unfolding after_over sent_over put_out
still [] h t v e = (refl, refl)
still (c ∷ more) h t v e =
    let x = still more h t v e in
    rw (again h t v e c) (x.0, rw (x.1, (t v e).1))

stands : (cs : List Call) (h : Handed) → Told h → (v : Verdict) → (after_over h cs).answer ≡ Over v → (more : List Call)
    → (after_over h (cs ++ more) ≡ after_over h cs) × (sent_over h (cs ++ more) ≡ sent_over h cs)
unfolding after_over sent_over
stands [] h t v e more = still more h t v e
stands (c ∷ cs) h t v e more =
    let x = stands cs (called h.session c) (call_told h.session c) v e more in
    (x.0, ap (λ (l : List Request). put_out h.request ++ l) x.1)

-- a mark that counts
one-most : {n : ℕ} (b : Bool) → n ≡ cond b 1 0 → (n ≤ 1) × ((b ≡ true) ↔ (n ≡ 1))
one-most true e = (omega arith, ((λ z. e), λ z. refl))
one-most false e = (omega arith, ((λ z. absurd (true≢false (sym z))), λ z. absurd (let y : ⊥ = omega (arith, e, z) in y)))

-- ---- the theorem

module _ (S : Settings) (f : Summary) (cs : List Call) where
  abbrev h : Handed
  h = begin_with S f

  abbrev s : Session
  s = (after_over h cs).session

  abbrev taken : List Reply
  taken = taken_over h cs

  abbrev out : List Request
  out = sent_over h cs

  abbrev Unless : Type 0
  Unless = ((kept : ℕ) × Keeps S.rule kept × Matched (keeping kept S) (target_of f) taken)
      ⊎ ((captured : ℕ) × (read : Words) × (rest : List Request) × (asked_in (opening S.address S.wanted captured read) ≡ out ++ rest))

  -- ---- a refused start puts nothing out

  module _ (v : Verdict) (e : h ≡ refused_of S v) where
    answers : h.answer ≡ Over v
    unfolding refused_of over_of
    answers = rw e refl

    ends : after_over h cs ≡ h
    ends = (still cs h (begin_told S f) v answers).0

    nothing : out ≡ []
    unfolding refused_of over_of put_out no_request
    nothing = (still cs h (begin_told S f) v answers).1 ∙ rw e refl

    none_put : {A : Type 0} (c : Call) → (called s c).answer ≡ Next → A
    none_put c x =
        let same : called s c ≡ h = ap (λ (k : Handed). called k.session c) ends ∙ again h (begin_told S f) v answers c in
        next_over (sym x ∙ (ap (λ (k : Handed). k.answer) same ∙ answers))

    abbrev all : List Request
    all = asked_in (opening S.address S.wanted 0 no_words)

    refused_lent : WhateverIsLent S f cs
    unfolding refused_of over_of fresh_of times
    refused_lent =
        record {
          settings = rw (ends, e) refl;
          file = λ x. absurd (let y : ⊥ = omega (arith, rw nothing at x) in y);
          counts = rw (nothing, ends, e) refl;
          bound = rw nothing (omega arith);
          address = record { every = λ q m. absurd (Memᴰ.not-nil (rw nothing at m)); nowhere = λ other m. absurd (Memᴰ.not-nil (rw nothing at m)) };
          once = rw nothing (omega arith);
          reports = rw (nothing, ends, e) ((λ z. absurd (true≢false (sym z))), λ z. absurd (let y : ⊥ = omega (arith, z) in y));
          stands = stands cs h (begin_told S f);
          puts = λ c x. none_put c x;
          unless = inr (0, no_words, all, ap (λ (l : List Request). l ++ all) (sym nothing));
        }

  -- ---- one that is not

  module _ (a : allowed_of S ≡ true) (e : file_sound f ≡ true) where
    where_it_is : Stands s taken out
    where_it_is = along cs h [] [] (begin_stands S f)

    with : With S f s
    with = with_along S f cs h (rw (← begin_sound S f a e) (start_with S f))

    bound : s.sent ≤ f.lines + S.limit + 3 * f.configs + 9
    unfolding most_sent
    bound = rw (with.0, with.1) at (stage_within s taken out s.stage where_it_is.at)

    goes : (q : Request) → Memᴰ q out → GoesTo S.address q
    goes = subst (λ (G : Settings). (q : Request) → Memᴰ q out → GoesTo G.address q) with.0 where_it_is.burns.goes

    burning : (times (burn_to S.address) out ≤ 1) × ((s.burned ≡ true) ↔ (times (burn_to S.address) out ≡ 1))
    burning =
        one-most s.burned (subst (λ (G : Settings). times (burn_to G.address) out ≡ cond s.burned 1 0) with.0 where_it_is.burns.counts)

    unless : Unless
    unless =
        by_gate
        (subst (λ F. GateBy S F taken out) with.1
        (subst (λ G. GateBy G s.file taken out) with.0 (stage_gate s taken out s.stage where_it_is.at)))
      where
        by_gate : GateBy S f taken out → Unless
        by_gate (inl (k, m)) = inl (kept_of S.rule, k, m)
        by_gate (inr x) = inr x

    started_lent : WhateverIsLent S f cs
    started_lent =
        record {
          settings = with.0;
          file = λ _. with.1;
          counts = where_it_is.counts;
          bound = rw (← where_it_is.counts) bound;
          address = record { every = goes; nowhere = λ other m. (goes (burn_to other) m).first };
          once = burning.0;
          reports = burning.1;
          stands = stands cs h (begin_told S f);
          puts = λ c x. rw (with.0, with.1) at ((puts_out s c).puts x);
          unless = unless;
        }

  pub whatever_is_lent : WhateverIsLent S f cs
  whatever_is_lent =
      split (allowed_of S)
      (λ a. split (file_sound f) (started_lent a) (λ e. refused_lent State (sym (begin_unsound S f a e))))
      (λ a. refused_lent Setting (sym (begin_out S f a)))

-- ---- with one text throughout

pub one-text : (text : List ℕ) (h : Handed) (rs : List Reply) → OneText text h rs
unfolding lent sent_over after_over sent after
one-text text h [] = record { requests = refl; last = refl }
one-text text h (r ∷ rs) =
    let x = one-text text (reply_of text h.session r.kind r.bytes) rs in
    record { requests = ap (λ (l : List Request). put_out h.request ++ l) x.requests; last = x.last }
