-- Whatever is lent: every request is for the device in use, and the burn goes out as line n alone, so once at most. Assumes nothing.
use Rattle.std.specs.Prelude.{Some, Ok, Err}
use Prim.Native.Nat.{ℕ, ◌+◌, ◌≤◌}
use mathlib.Core.Path.{◌≡◌, refl, sym, ap, ◌∙◌}
use mathlib.Core.Logic.{⊎_elim, ◌↔◌}
use mathlib.Core.Bool.{Bool, true, false, cond, true≢false}
use mathlib.Core.List.Memᴰ
use mathlib.Core.List.{List, [], ◌∷◌, ◌++◌, Memᴰ}
use native.Mathlib.Omega.{arith}
use Rattle.promise.proofs.Basics.{split}
use Rattle.counts.specs.declared.LineNumber.{LineNumber}
use Rattle.line.specs.declared.Line.{Line}
use Rattle.line.specs.Digits.{digit_val, values_of}
use Rattle.line.proofs.ReadBytes.{took_read}
use Rattle.line.specs.Reading.{line_of, read_line, next_by, next_of, next_line, LineReading}
use Rattle.line.proofs.GoodExactly.{good_form}
use Rattle.summary.specs.declared.Summary.{Summary}
use Rattle.summary.specs.Burn.{is_burn}
use Rattle.image.proofs.LineBytes.{burn_bytes, bytes_burn}
use Rattle.bus.specs.declared.Request.{Request}
use Rattle.bus.specs.Bus.{write_of, reserved}
use Rattle.guide.specs.Requests.{line_request}
use Rattle.guide.specs.Wire.{burn_to}
use Rattle.guide.specs.Statements.{is_burn_mark, same_bytes}
use Rattle.guide.proofs.Every.{Other, point, set, command, load}
use Rattle.guide.proofs.Every as every
use Rattle.guide.proofs.LineBytes.{in_use_lem, burning, line_spelt}
use Rattle.guide.proofs.MarksTell.{same_self, others_agree}
use Rattle.session.specs.declared.Settings.{Settings}
use Rattle.session.specs.declared.Session.{Session}
use Rattle.session.specs.declared.Awaited.{Awaited}
use Rattle.session.specs.declared.Awaited.TheVariants.{CaptureAt, CaptureRead, CaptureWrite, CaptureApply, CounterAt, CounterRead, IdentityRead, FlagAt, FlagRead, RevisionRead, LineOut, StatusAt, StatusRead, BanksAt, BanksRead, Restore, CrcAt, CrcRead}
use Rattle.session.specs.declared.Stage.{Stage}
use Rattle.session.specs.declared.Stage.TheVariants.{Open, Ended}
use Rattle.session.specs.Moves.{with_stage, with_position, with_burned, with_sent}
use Rattle.session.specs.Lines.{at_line}
use Rattle.session.specs.Sound.{state_tests, sound_of}
use Rattle.session.specs.Terms.{keeping}
use Rattle.session.proofs.Tests.{all_at}
use Rattle.demands.specs.Headline.{Allowed}
use Rattle.demands.specs.Exactly.{Due, first, later}
use Rattle.demands.specs.Addresses.{GoesTo}
use Rattle.demands.specs.Lent.{Own, capture, word, back, apply, counter, identity, flag, revision, status, banks, restore, crc, times}
use Rattle.demands.proofs.SettingsSay.{allowed_is, not_reserved}
use Rattle.demands.proofs.FitsCall.{holding}
use Rattle.demands.proofs.Addressed.{other_goes, line_goes}
use Rattle.demands.proofs.EveryStep as step
use Rattle.demands.proofs.EveryStep.{Step}
use Rattle.demands.proofs.PutsOut.{held, restores_some}

-- ---- the guide's own

own_other : (S : Settings) (f : Summary) {q : Request} → Own S f q → Other (keeping 0 S) f q
own_other S f capture = point _ _
own_other S f word = every.word
own_other S f (back w) = set _
own_other S f apply = command
own_other S f counter = point _ _
own_other S f identity = every.identity
own_other S f flag = point _ _
own_other S f revision = every.revision
own_other S f status = point _ _
own_other S f banks = point _ _
own_other S f (restore N h) = load N
own_other S f crc = point _ _

-- the burn, as the guide writes it
burn_is : (address : ℕ) → burn_to address ≡ burning address
burn_is address = (in_use_lem address).burn

pub own_no_burn : (S : Settings) (f : Summary) → reserved S.restore ≡ false → (q : Request) → Own S f q → same_bytes q.bytes (burn_to S.address).bytes ≡ false
unfolding is_burn_mark
own_no_burn S f e q o = ap (λ (b : Request). same_bytes q.bytes b.bytes) (burn_is S.address) ∙ others_agree 0 (keeping 0 S) f e q (own_other S f o)

pub own_goes : (S : Settings) (f : Summary) → S.address ≤ 0xEE → (q : Request) → Own S f q → (p : Request) → Memᴰ p (q ∷ []) → GoesTo S.address p
own_goes S f high q o p m =
    ⊎_elim (λ e. rw e (other_goes (keeping 0 S) high f [] [] q (own_other S f o))) (λ n. absurd (Memᴰ.not-nil n)) (Memᴰ.cases_cons m)

-- ---- a line

pub line_burn : (address : ℕ) (n : LineNumber) (place : ℕ) (text : List ℕ) (l : Line) (next : ℕ) → 5 ≤ n.0 → next_line n place text ≡ Ok (Some (l, next))
    → same_bytes (line_request address l).bytes (burn_to address).bytes ≡ is_burn l
line_burn address n place text l next h e =
    let x = took_read n _ _ l next e in
    let t = x.0 in
    let v = values_of digit_val t in
    let f = good_form n t l (omega (arith, h)) x.1 in
    let s = line_spelt address n.0 v h f.form in
    let q = write_of address f.form.command f.form.content in
    let own : line_request address l ≡ q = ap (line_request address) f.line ∙ s.own in
    ap (λ (p : Request). same_bytes p.bytes (burn_to address).bytes) own
    ∙ (ap (λ (p : Request). same_bytes q.bytes p.bytes) (burn_is address)
    ∙ (split (is_burn (line_of v))
    (λ b. ap (λ (p : Request). same_bytes p.bytes (burning address).bytes) (s.burn (burn_bytes f.form b)) ∙ (same_self (burning address).bytes ∙ sym b))
    (λ b. split (same_bytes q.bytes (burning address).bytes) (λ g. absurd (true≢false (sym (bytes_burn f.form (s.only g)) ∙ b))) (λ g. g ∙ sym b))
    ∙ ap is_burn (sym f.line)))

-- ---- where a session stands with the burn

-- before step 3 none is out; in it the burn is out only as line n
unfoldable pub Quiet : Session → Awaited → Type 0
Quiet s LineOut = s.burned ≡ true → s.file.lines ≤ s.position.line.0
Quiet s StatusAt = Unit
Quiet s StatusRead = Unit
Quiet s BanksAt = Unit
Quiet s BanksRead = Unit
Quiet s Restore = Unit
Quiet s CrcAt = Unit
Quiet s CrcRead = Unit
Quiet s CaptureAt = s.burned ≡ false
Quiet s CaptureRead = s.burned ≡ false
Quiet s CaptureWrite = s.burned ≡ false
Quiet s CaptureApply = s.burned ≡ false
Quiet s CounterAt = s.burned ≡ false
Quiet s CounterRead = s.burned ≡ false
Quiet s IdentityRead = s.burned ≡ false
Quiet s FlagAt = s.burned ≡ false
Quiet s FlagRead = s.burned ≡ false
Quiet s RevisionRead = s.burned ≡ false

unfoldable pub QuietAt : Session → Stage → Type 0
QuietAt s (Open g) = Quiet s g
QuietAt s (Ended v) = Unit

pub record Burns (s : Session) (out : List Request) : Type 0 where
  pub counts : times (burn_to s.settings.address) out ≡ cond s.burned 1 0
  pub quiet : QuietAt s s.stage
  pub goes : (q : Request) → Memᴰ q out → GoesTo s.settings.address q

-- one request more
times_on : (b : Request) (xs : List Request) (q : Request) → times b (xs ++ (q ∷ [])) ≡ times b xs + cond (same_bytes q.bytes b.bytes) 1 0
unfolding times
times_on b [] q = split (same_bytes q.bytes b.bytes) (λ e. rw e refl) (λ e. rw e refl)
times_on b (x ∷ xs) q =
    split (same_bytes x.bytes b.bytes) (λ e. rw e (omega (arith, times_on b xs q))) (λ e. rw e (times_on b xs q))

pub first_times : (address : ℕ) (q : Request) → same_bytes q.bytes (burn_to address).bytes ≡ false → times (burn_to address) (q ∷ []) ≡ 0
unfolding times
first_times address q e = rw e refl

goes_on : (address : ℕ) (xs : List Request) (p : Request) → ((q : Request) → Memᴰ q xs → GoesTo address q) → GoesTo address p
    → (q : Request) → Memᴰ q (xs ++ (p ∷ [])) → GoesTo address q
goes_on address [] p f g q m = ⊎_elim (λ e. rw e g) (λ n. absurd (Memᴰ.not-nil n)) (Memᴰ.cases_cons m)
goes_on address (x ∷ xs) p f g q m =
    ⊎_elim (λ e. rw e (f x (Memᴰ.head refl))) (λ n. goes_on address xs p (λ r k. f r (Memᴰ.tail k)) g q n) (Memᴰ.cases_cons m)

module _ (s : Session) (out : List Request) (ok : sound_of s ≡ true) (x : Burns s out) where
  abbrev a : ℕ
  a = s.settings.address

  allowed : Allowed (keeping 0 s.settings)
  unfolding sound_of state_tests
  allowed = allowed_is s.settings (all_at (state_tests s) 0 ok) 0

  -- ---- a request of the guide's own

  own_on : (t : Session) (next : Awaited) (q : Request) → Own s.settings s.file q → t.settings ≡ s.settings → t.burned ≡ s.burned
      → Quiet (holding t next q) next → Burns (holding t next q) (out ++ (q ∷ []))
  unfolding with_sent with_stage QuietAt
  own_on t next q o e b quiet =
      let no : same_bytes q.bytes (burn_to a).bytes ≡ false = own_no_burn s.settings s.file (not_reserved (keeping 0 s.settings) allowed) q o in
      record {
        counts = rw (e, b) (times_on (burn_to a) out q ∙ rw no (omega (arith, x.counts)));
        quiet = quiet;
        goes = rw e (goes_on a out q x.goes (other_goes (keeping 0 s.settings) allowed.high s.file [] [] q (own_other s.settings s.file o)));
      }

  -- ---- a line

  module _ (w : ℕ) (g : Awaited) (n : LineNumber) (d : Due s w g n) (quiet : Quiet s g) where
    -- the burn is not out yet
    unburned : s.burned ≡ false
    unfolding Quiet
    unburned = by d quiet
      where
        by : {h : Awaited} {m : LineNumber} → Due s w h m → Quiet s h → s.burned ≡ false
        by (first kept k f) q = q
        by (later h) q = split s.burned (λ e. absurd (let y : ⊥ = omega (arith, q e, h) in y)) (λ e. e)

    from5 : 5 ≤ n.0
    from5 = by d
      where
        by : {h : Awaited} {m : LineNumber} → Due s w h m → 5 ≤ m.0
        by (first kept k f) = omega arith
        by (later h) = omega (arith, (held s ok).low)

    line_on : (text : List ℕ) (l : Line) (next : ℕ) → next_line n s.position.place text ≡ Ok (Some (l, next)) → (is_burn l ≡ true) ↔ (n.0 ≡ s.file.lines)
        → (b : Bool) → (is_burn l ≡ true → b ≡ true) → (is_burn l ≡ false → b ≡ s.burned)
        → Burns (holding (with_burned (with_position s (at_line s.position n next)) b) LineOut (line_request a l)) (out ++ (line_request a l ∷ []))
    unfolding with_sent with_stage with_position with_burned at_line QuietAt Quiet
    line_on text l next e burn b sets keeps =
        let q = line_request a l in
        let same = line_burn a n s.position.place text l next from5 e in
        record {
          counts =
              times_on (burn_to a) out q
              ∙ split (is_burn l)
              (λ f. rw (same, f, sets f) (omega (arith, rw unburned at x.counts)))
              (λ f. rw (same, f, keeps f) (omega (arith, x.counts)));
          quiet = λ z.
              split (is_burn l) (λ f. omega (arith, burn.0 f)) (λ f. absurd (true≢false (sym z ∙ (keeps f ∙ unburned))));
          goes = goes_on a out q x.goes (line_goes (keeping 0 s.settings) allowed.high s.file [] [] l);
        }

  -- ---- every step

  pub burns_on : (text : List ℕ) (w : ℕ) (g : Awaited) → Quiet s g → (t : Session) (next : Awaited) (q : Request) → Step text s w g t next q
      → Burns (holding t next q) (out ++ (q ∷ []))
  unfolding Quiet with_sent with_stage with_position
  burns_on text w g u t m q step.capture_read_lem = own_on t m q word refl refl u
  burns_on text w g u t m q step.capture_write_lem = own_on t m q (back w) refl refl u
  burns_on text w g u t m q step.capture_apply_lem = own_on t m q apply refl refl u
  burns_on text w g u t m q step.counter_at_lem = own_on t m q counter refl refl u
  burns_on text w g u t m q step.counter_read_lem = own_on t m q word refl refl u
  burns_on text w g u t m q step.identity_read_lem = own_on t m q identity refl refl u
  burns_on text w g u t m q step.flag_at_lem = own_on t m q flag refl refl u
  burns_on text w g u t m q step.flag_read_lem = own_on t m q word refl refl u
  burns_on text w g u t m q step.revision_read_lem = own_on t m q revision refl refl u
  burns_on text w g u _ _ _ (step.line_out_lem _ n d l next e burn b sets keeps) = line_on w g n d u text l next e burn b sets keeps
  burns_on text w g u t m q (step.status_at_lem _) = own_on t m q status refl refl tt
  burns_on text w g u t m q step.status_read_lem = own_on t m q word refl refl tt
  burns_on text w g u t m q (step.again _) = own_on t m q word refl refl tt
  burns_on text w g u t m q step.banks_at_lem = own_on t m q banks refl refl tt
  burns_on text w g u t m q step.banks_read_lem = own_on t m q word refl refl tt
  burns_on text w g u t m q (step.restore _ N r) = own_on t m q (restore N.0 (restores_some s (held s ok) _ N r)) refl refl tt
  burns_on text w g u t m q step.crc_at_lem = own_on t m q crc refl refl tt
  burns_on text w g u t m q step.crc_read_lem = own_on t m q word refl refl tt
