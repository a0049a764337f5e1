-- For each exchange there is a reply in form that tells its word: a write's is kind 1 and no bytes, a read's the word's four bytes,
-- lowest first, and their PEC. Assumes nothing.
use mathlib.Core.Path.{◌≡◌}
use mathlib.Core.Bool.{Bool, true, false}
use mathlib.Core.List.Memᴰ
use mathlib.Core.List.{List, [], ◌∷◌, ◌++◌, Memᴰ}
use Prim.Native.Nat.{ℕ, zero, suc, ◌+◌, ◌%◌, ◌/◌, ◌<◌}
use native.Mathlib.Omega.{arith}
use lib.ListN.{get_or}
use Rattle.pec.proofs.Laws.{pec-lt}
use Rattle.line.specs.declared.Line.{Line}
use Rattle.summary.specs.declared.Summary.{Summary}
use Rattle.bus.specs.Bus.{framed, write_of}
use Rattle.guide.specs.Requests.{read_data, read_block}
use Rattle.bus.specs.InForm.{register_pec, block_pec, spelled, InForm, wrote as wroteBytes, register_read, block_read}
use Rattle.guide.specs.Plan.{Reply}
use Rattle.guide.specs.Guide.{crc_in}
use Rattle.guide.specs.Requests.{line_request}
use Rattle.guide.specs.Matched.{Exchange, wrote, got, Heard, none, more, opening}
use Rattle.guide.specs.Course.{heard3, heard6, line_requests, configs_in}
use Rattle.demands.specs.Demands.{OfBytes}
use Rattle.guide.specs.Terms.{Terms}
use Rattle.guide.specs.declared.Words.{Words}

abbrev Can : Exchange → Type 0
Can x = (r : Reply) × InForm x.request r.kind r.bytes x.word × OfBytes r

abbrev done : List ℕ → Reply
done bs = record { kind = 1; bytes = bs }

-- ---- lists of bytes

data Bytes : List ℕ → Type 0 where
  empty : Bytes []
  byte : (b : ℕ) {bs : List ℕ} → b < 256 → Bytes bs → Bytes (b ∷ bs)

each_byte : {bs : List ℕ} → Bytes bs → (i : ℕ) → get_or bs i 0 < 256
each_byte empty i = omega arith
each_byte (byte b h f) zero = h
each_byte (byte b h f) (suc i) = each_byte f i

of_bytes : {bs : List ℕ} → Bytes bs → OfBytes (done bs)
of_bytes f = record { kind = omega arith; bytes = each_byte f }

-- ---- the exchanges that have a reply

pub data Able : List Exchange → Type 0 where
  end : Able []
  and : {x : Exchange} {xs : List Exchange} → Can x → Able xs → Able (x ∷ xs)

pub able_both : {xs ys : List Exchange} → Able xs → Able ys → Able (xs ++ ys)
able_both end b = b
able_both (and c a) b = and c (able_both a b)

pub able_answered : {xs : List Exchange} → Able xs → (rs : List Reply) × Heard xs rs [] × ((r : Reply) → Memᴰ r rs → OfBytes r)
able_answered end = ([], none [], λ r m. absurd (Memᴰ.not-nil m))
able_answered (and {x} {xs} c a) =
    let b = able_answered a in
    (c.0 ∷ b.0, more x xs c.0 b.0 [] c.1 b.1, all c.2 b.2)
  where
    all : {r : Reply} {rs : List Reply} → OfBytes r → ((q : Reply) → Memᴰ q rs → OfBytes q) → (q : Reply) → Memᴰ q (r ∷ rs) → OfBytes q
    all h f q (Memᴰ.head e) = rw e h
    all h f q (Memᴰ.tail m) = f q m

-- ---- each kind of exchange

pub can_write : (sent : List ℕ) (p : ℕ) → Can (wrote (framed sent p))
can_write sent p = (done [], wroteBytes sent p, of_bytes empty)

module _ (address w : ℕ) (h : w < 4294967296) where
  abbrev a : ℕ
  a = w % 256

  abbrev b : ℕ
  b = w / 256 % 256

  abbrev c : ℕ
  c = w / 256 / 256 % 256

  abbrev d : ℕ
  d = w / 256 / 256 / 256 % 256

  -- the word's bytes, and a PEC behind them
  word_bytes : (p : ℕ) → p < 256 → Bytes (a ∷ b ∷ c ∷ d ∷ p ∷ [])
  word_bytes p h = byte a (omega arith) (byte b (omega arith) (byte c (omega arith) (byte d (omega arith) (byte p h empty))))

  spelled_is : spelled a b c d ≡ w
  spelled_is = omega arith

  pub can_read : Can (got (read_data address) w)
  can_read = (
    done (a ∷ b ∷ c ∷ d ∷ register_pec address a b c d ∷ []),
    rw spelled_is at (register_read address a b c d),
    of_bytes (word_bytes _ (pec-lt _)),
  )

  pub can_block : (command : ℕ) → Can (got (read_block address command) w)
  can_block command = (
    done (4 ∷ a ∷ b ∷ c ∷ d ∷ block_pec address command a b c d ∷ []),
    rw spelled_is at (block_read address command a b c d),
    of_bytes (byte 4 (omega arith) (word_bytes _ (pec-lt _))),
  )

-- ---- the steps

pub able_opening : (address : ℕ) (wanted : Bool) (read : Words)
    → read.counter < 4294967296 → read.identity < 4294967296 → read.flag < 4294967296 → read.revision < 4294967296
    → Able (opening address wanted 0 read)
unfolding opening write_of
able_opening address wanted read e f g h = by wanted
  where
    step2 : Able (opening address false 0 read)
    step2 =
        and (can_write _ _) (and (can_read address read.counter e) (and (can_block address read.identity f _)
        (and (can_write _ _) (and (can_read address read.flag g) (and (can_block address read.revision h _) end)))))

    by : (b : Bool) → Able (opening address b 0 read)
    by true = and (can_write _ _) (and (can_read address 0 (omega arith)) (and (can_write _ _) (and (can_write _ _) step2)))
    by false = step2

pub able_lines : (address : ℕ) (ls : List Line) → Able (heard3 (line_requests address ls))
unfolding heard3 line_requests line_request write_of
able_lines address [] = end
able_lines address (l ∷ ls) = and (can_write _ _) (able_lines address ls)

pub able_crcs : (T : Terms) (file : Summary) (left N : ℕ) → ((i : ℕ) → i < N + left → crc_in file i < 4294967296) → Able (heard6 T (configs_in file left N))
unfolding heard6 configs_in write_of
able_crcs T file zero N f = end
able_crcs T file (suc left) N f =
    and (can_write _ _) (and (can_write _ _) (and (can_read T.address (crc_in file N) (f N (omega arith)))
    (able_crcs T file left (N + 1) (λ i h. f i (omega arith)))))
