-- Where a session stands that was begun with any summary and lent any texts: the replies taken so far were heard as steps 1 and 2 ask, or they
-- matched; and so many requests are out at most. The session's own settings and summary are meant. Assumes nothing.
use Prim.Native.Nat.{ℕ, ◌+◌, ◌*◌, ◌≤◌, ◌<◌}
use mathlib.Core.Path.{◌≡◌, refl, sym, ap, ◌∙◌}
use mathlib.Core.Logic.{◌⊎◌, inl, inr}
use mathlib.Core.Bool.{Bool, true, false}
use mathlib.Core.List.{List, [], ◌∷◌, ◌++◌, append_assoc}
use native.Mathlib.Omega.{arith}
use Rattle.std.specs.Prelude.{Ok}
use Rattle.bus.specs.declared.Request.{Request}
use Rattle.bus.specs.Bus.{write_of, word_bytes}
use Rattle.bus.specs.ReplyForm.{form_of}
use Rattle.bus.specs.InForm.{Made, Says, Means}
use Rattle.bus.proofs.FormMeans.{form_means}
use Rattle.summary.specs.declared.Summary.{Summary}
use Rattle.guide.specs.declared.Words.{Words}
use Rattle.guide.specs.Judged.{cleared}
use Rattle.guide.specs.Requests.{point_to, read_data, read_block}
use Rattle.guide.specs.Plan.{Reply}
use Rattle.guide.specs.Guide.{target_of}
use Rattle.guide.specs.Matched.{Exchange, wrote, got, Heard, none, more, asked_in, heard1, heard2, opening, Matched}
use Rattle.guide.proofs.Through.{heard_both}
use Rattle.guide.proofs.Writes.{came_none, made_write}
use Rattle.session.specs.declared.Settings.{Settings}
use Rattle.session.specs.declared.Session.{Session}
use Rattle.session.specs.declared.Awaited.{Awaited}
use Rattle.session.specs.declared.Awaited.TheVariants.{CaptureAt, CaptureRead, CaptureWrite, CaptureApply, CounterAt, CounterRead, IdentityRead, FlagAt, FlagRead, RevisionRead, LineOut, StatusAt, StatusRead, BanksAt, BanksRead, Restore, CrcAt, CrcRead}
use Rattle.session.specs.Moves.{address_of}
use Rattle.session.specs.Terms.{kept_of, keeping}
use Rattle.session.specs.Sound.{most_sent}
use Rattle.demands.specs.Headline.{Keeps}
use Rattle.demands.proofs.CanEnd.{asked_both}

-- ---- replies that are heard

pub heard_later : {xs : List Exchange} {rs left : List Reply} → Heard xs rs left → (later : List Reply) → Heard xs (rs ++ later) (left ++ later)
heard_later (none left) later = none _
heard_later (more x xs r rs left i h) later = more x xs r _ _ i (heard_later h later)

-- one reply more
pub heard_one : {xs ys : List Exchange} {rs : List Reply} {r : Reply} → Heard xs rs [] → Heard ys (r ∷ []) [] → Heard (xs ++ ys) (rs ++ (r ∷ [])) []
heard_one {r = r} h k = heard_both (heard_later h (r ∷ [])) k

pub was_read : {q : Request} → Made q → (r : Reply) (w : ℕ) → form_of q r.kind r.bytes ≡ Ok w → Heard (got q w ∷ []) (r ∷ []) []
unfolding Means Says
was_read made r w e = more _ [] r [] [] ((form_means made r.kind r.bytes (Ok w)).0 e) (none [])

pub was_written : (address command : ℕ) (bs : List ℕ) (r : Reply) (w : ℕ) → form_of (write_of address command bs) r.kind r.bytes ≡ Ok w
    → Heard (wrote (write_of address command bs) ∷ []) (r ∷ []) []
was_written address command bs r w e = came_none address command bs (was_read (made_write address command bs) r w e)

-- ---- steps 1 and 2

-- what is heard before step 2
unfoldable pub before2 : ℕ → Bool → ℕ → List Exchange
before2 address true c = heard1 address c
before2 address false c = []

pub opening_is : (address : ℕ) (wanted : Bool) (c : ℕ) (read : Words) → opening address wanted c read ≡ before2 address wanted c ++ heard2 address read
unfolding opening before2
opening_is address true c read = refl
opening_is address false c read = refl

-- these replies matched what the summary says, by the rule that the settings carry
abbrev pub PassedBy : Settings → Summary → List Reply → Type 0
PassedBy S f rs = Keeps S.rule (kept_of S.rule) × Matched (keeping (kept_of S.rule) S) (target_of f) rs

-- they did, or no line is out
abbrev pub GateBy : Settings → Summary → List Reply → List Request → Type 0
GateBy S f rs out =
    PassedBy S f rs
    ⊎ ((captured : ℕ) × (read : Words) × (rest : List Request) × (asked_in (opening S.address S.wanted captured read) ≡ out ++ rest))

module _ (s : Session) (rs : List Reply) (out : List Request) where
  -- these were heard, and this is asked behind them
  pub record Opened (most : ℕ) (xs : List Exchange) (q : Request) : Type 0 where
    pub heard : Heard xs rs []
    pub asked : out ≡ asked_in xs ++ (q ∷ [])
    pub hand : s.hand ≡ q
    pub few : s.sent ≤ most
    pub line : s.position.line.0 ≡ 5
    pub config : s.position.config.0 ≡ 0
    pub polls : s.position.polls ≡ 0
    pub some : 1 ≤ s.settings.limit

  abbrev pub Passed : Type 0
  Passed = PassedBy s.settings s.file rs

  -- and at most so many requests are out
  pub record Behind (most : ℕ) : Type 0 where
    pub matched : Passed
    pub few : s.sent ≤ most

  abbrev pub a : ℕ
  a = address_of s

  abbrev pub word : Words
  word = s.position.read

  abbrev pub n : ℕ
  n = s.file.lines

  abbrev pub limit : ℕ
  limit = s.settings.limit

  abbrev pub In1 : ℕ → List Exchange → Request → Type 0
  In1 most xs q = (s.settings.wanted ≡ true) × Opened most xs q

  -- in step 2, behind step 1 if it was wanted
  pub record In2 (most c : ℕ) (xs : List Exchange) (q : Request) : Type 0 where
    pub opened : Opened most (before2 a s.settings.wanted c ++ xs) q

  abbrev pub In6 : ℕ → Type 0
  In6 most = Behind (most + n + limit + 3 * s.position.config.0) × (s.position.config.0 < s.file.configs)

  unfoldable pub Where : Awaited → Type 0
  Where CaptureAt = In1 1 [] (point_to a 0xA2 0x00)
  Where CaptureRead = In1 2 (wrote (point_to a 0xA2 0x00) ∷ []) (read_data a)
  Where CaptureWrite = (c : ℕ) × In1 3 (wrote (point_to a 0xA2 0x00) ∷ got (read_data a) c ∷ []) (write_of a 0xC5 (word_bytes (cleared c)))
  Where CaptureApply =
      (c : ℕ) × In1 4 (wrote (point_to a 0xA2 0x00) ∷ got (read_data a) c ∷ wrote (write_of a 0xC5 (word_bytes (cleared c))) ∷ []) (write_of a 0xE7 (0x02 ∷ 0x00 ∷ []))
  Where CounterAt = (c : ℕ) × In2 5 c [] (point_to a 0x35 0x00)
  Where CounterRead = (c : ℕ) × In2 6 c (wrote (point_to a 0x35 0x00) ∷ []) (read_data a)
  Where IdentityRead = (c : ℕ) × In2 7 c (wrote (point_to a 0x35 0x00) ∷ got (read_data a) word.counter ∷ []) (read_block a 0xAD)
  Where FlagAt =
      (c : ℕ) × In2 8 c (wrote (point_to a 0x35 0x00) ∷ got (read_data a) word.counter ∷ got (read_block a 0xAD) word.identity ∷ []) (point_to a 0x87 0xBD)
  Where FlagRead =
      (c : ℕ) × In2 9 c (wrote (point_to a 0x35 0x00) ∷ got (read_data a) word.counter ∷ got (read_block a 0xAD) word.identity
      ∷ wrote (point_to a 0x87 0xBD) ∷ []) (read_data a)
  Where RevisionRead =
      (c : ℕ) × In2 10 c (wrote (point_to a 0x35 0x00) ∷ got (read_data a) word.counter ∷ got (read_block a 0xAD) word.identity
      ∷ wrote (point_to a 0x87 0xBD) ∷ got (read_data a) word.flag ∷ []) (read_block a 0xAE)
  Where LineOut = Behind (6 + s.position.line.0) × (s.position.line.0 ≤ n) × (s.position.polls ≡ 0)
  Where StatusAt = Behind (7 + n) × (s.position.polls ≡ 0)
  Where StatusRead = Behind (8 + n + s.position.polls) × (s.position.polls < limit)
  Where BanksAt = Behind (8 + n + limit)
  Where BanksRead = Behind (9 + n + limit)
  Where Restore = In6 10
  Where CrcAt = In6 11
  Where CrcRead = In6 12

  abbrev pub Gate : Type 0
  Gate = GateBy s.settings s.file rs out

  -- ---- what follows of where it stands

  -- what is asked in the opening is a beginning of it
  begins : (xs : List Exchange) (q : Request) (rest : List Request) → out ≡ asked_in xs ++ (q ∷ []) → (asked_in xs ++ (q ∷ [])) ++ rest ≡ out ++ rest
  begins xs q rest e = ap (λ (l : List Request). l ++ rest) (sym e)

  in1_gate : {most : ℕ} {xs : List Exchange} {q : Request} (c : ℕ) (rest : List Request) → In1 most xs q
      → asked_in (opening a true c word) ≡ (asked_in xs ++ (q ∷ [])) ++ rest → Gate
  in1_gate {xs = xs} {q = q} c rest (w, o) e = inr (c, word, rest, rw w (e ∙ begins xs q rest o.asked))

  in2_gate : {most c : ℕ} {xs : List Exchange} {q : Request} (rest : List Request) → In2 most c xs q
      → asked_in (heard2 a word) ≡ (asked_in xs ++ (q ∷ [])) ++ rest → Gate
  in2_gate {c = c} {xs = xs} {q = q} rest o e =
      let first = before2 a s.settings.wanted c in
      let all : asked_in (opening a s.settings.wanted c word) ≡ asked_in first ++ ((asked_in xs ++ (q ∷ [])) ++ rest)
      = ap asked_in (opening_is a s.settings.wanted c word) ∙ (asked_both first (heard2 a word) ∙ ap (λ (l : List Request). asked_in first ++ l) e) in
      let here : out ++ rest ≡ asked_in first ++ ((asked_in xs ++ (q ∷ [])) ++ rest)
      = ap (λ (l : List Request). l ++ rest) (o.opened.asked ∙ ap (λ (l : List Request). l ++ (q ∷ [])) (asked_both first xs) ∙ append_assoc (asked_in first) (asked_in xs) (q ∷ []))
      ∙ append_assoc (asked_in first) (asked_in xs ++ (q ∷ [])) rest in
      inr (c, word, rest, all ∙ sym here)

  pub gate : (g : Awaited) → Where g → Gate
  unfolding Where opening asked_in
  gate CaptureAt o = in1_gate 0 _ o refl
  gate CaptureRead o = in1_gate 0 _ o refl
  gate CaptureWrite (c, o) = in1_gate c _ o refl
  gate CaptureApply (c, o) = in1_gate c _ o refl
  gate CounterAt (c, o) = in2_gate _ o refl
  gate CounterRead (c, o) = in2_gate _ o refl
  gate IdentityRead (c, o) = in2_gate _ o refl
  gate FlagAt (c, o) = in2_gate _ o refl
  gate FlagRead (c, o) = in2_gate _ o refl
  gate RevisionRead (c, o) = in2_gate _ o refl
  gate LineOut o = inl o.0.matched
  gate StatusAt o = inl o.0.matched
  gate StatusRead o = inl o.0.matched
  gate BanksAt o = inl o.matched
  gate BanksRead o = inl o.matched
  gate Restore o = inl o.0.matched
  gate CrcAt o = inl o.0.matched
  gate CrcRead o = inl o.0.matched

  -- the bound that 15 holds a state to
  pub within : (g : Awaited) → Where g → s.sent ≤ most_sent s
  unfolding Where most_sent
  within CaptureAt (w, o) = omega (arith, o.few, o.some)
  within CaptureRead (w, o) = omega (arith, o.few, o.some)
  within CaptureWrite (c, (w, o)) = omega (arith, o.few, o.some)
  within CaptureApply (c, (w, o)) = omega (arith, o.few, o.some)
  within CounterAt (c, o) = omega (arith, o.opened.few, o.opened.some)
  within CounterRead (c, o) = omega (arith, o.opened.few, o.opened.some)
  within IdentityRead (c, o) = omega (arith, o.opened.few, o.opened.some)
  within FlagAt (c, o) = omega (arith, o.opened.few, o.opened.some)
  within FlagRead (c, o) = omega (arith, o.opened.few, o.opened.some)
  within RevisionRead (c, o) = omega (arith, o.opened.few, o.opened.some)
  within LineOut (o, h, p) = omega (arith, o.few, h)
  within StatusAt (o, p) = omega (arith, o.few)
  within StatusRead (o, p) = omega (arith, o.few, p)
  within BanksAt o = omega (arith, o.few)
  within BanksRead o = omega (arith, o.few)
  within Restore (o, h) = omega (arith, o.few, h)
  within CrcAt (o, h) = omega (arith, o.few, h)
  within CrcRead (o, h) = omega (arith, o.few, h)

-- a reply more leaves it so
pub matched_later : (s : Session) (rs : List Reply) (out : List Request) (later : List Reply) → Passed s rs out → Passed s (rs ++ later) out
matched_later s rs out later (k, m) =
    (k, record { captured = m.captured; read = m.read; left = m.left ++ later; came = heard_later m.came later; fits = m.fits })

pub gate_later : (s : Session) (rs : List Reply) (out : List Request) (later : List Reply) → Gate s rs out → Gate s (rs ++ later) out
gate_later s rs out later (inl m) = inl (matched_later s rs out later m)
gate_later s rs out later (inr x) = inr x
