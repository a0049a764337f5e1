-- What a file must be (document 01, "Lines of the file" and "The whole file"), without tests and without an order: over the
-- lines of the text, the bytes that they spell, and the PEC. No promise cites this page. Assumes nothing.
use Rattle.std.specs.Prelude.{◌≡◌, ℕ, ◌+◌, ◌-◌, ◌*◌, ◌%◌, ◌≤◌, ◌<◌, length, get_or, drop}
use mathlib.Core.List.{List, [], ◌∷◌, Memᴰ}
use Rattle.counts.specs.declared.Kind.{Kind}
use Rattle.counts.specs.declared.Kind.TheVariants.{Legacy, Production}
use Rattle.counts.specs.Counts.{config_id}
use Rattle.cuts.specs.Lines.{lines_of}
use Rattle.cuts.specs.Text.{Text}
use Rattle.line.specs.LineForm.{Spells, LineForm}
use Rattle.image.specs.Says.{word}
use Rattle.image.specs.Check.{check_of}
use Rattle.summary.specs.Answers.{answer_told}
use Rattle.image.specs.Parts.{parts}

-- the revision's first byte, the kind, its step s and its CRC place c
pub data KindHas : ℕ → Kind → ℕ → ℕ → Type 0 where
  legacy0 : KindHas 0x00 Legacy 337 276
  legacy1 : KindHas 0x01 Legacy 337 276
  production6 : KindHas 0x06 Production 363 290
  production7 : KindHas 0x07 Production 363 290

-- of a line's bytes: the command, and data byte i, counted from 0
abbrev pub command_in : List ℕ → ℕ
command_in v = get_or v 3 0

abbrev pub data_in : ℕ → List ℕ → ℕ
data_in i v = get_or v (4 + i) 0

-- 49D2, a part, 00
pub record Accepts29 (v : List ℕ) : Type 0 where
  pub first : data_in 0 v ≡ 0x49
  pub second : data_in 1 v ≡ 0xD2
  pub middle : Memᴰ (data_in 2 v) parts
  pub last : data_in 3 v ≡ 0x00

-- E7 with 08 00
pub record BurnBytes (v : List ℕ) : Type 0 where
  pub command : command_in v ≡ 0xE7
  pub low : data_in 0 v ≡ 0x08
  pub high : data_in 1 v ≡ 0x00

-- the line with this number, counted from 1
abbrev pub numbered : List (List ℕ) → ℕ → List ℕ
numbered vs n = get_or vs (n - 1) []

-- how a file is laid out: its revision names a kind, and it has n = 12 + s x k lines, k from 1 to 8
pub record Laid (vs : List (List ℕ)) : Type 0 where
  pub kind : Kind
  pub step : ℕ
  pub crc_place : ℕ
  pub revision : KindHas (data_in 0 (numbered vs 2)) kind step crc_place
  pub configs : ℕ
  pub some : 1 ≤ configs
  pub few : configs ≤ 8
  pub count : length vs ≡ 12 + step * configs

-- configuration N has the identifier line s x N + 12 and the CRC line s x N + c
module _ {vs : List (List ℕ)} (l : Laid vs) (N : ℕ) where
  abbrev pub id_bytes : List ℕ
  id_bytes = numbered vs (l.step * N + 12)

  abbrev pub crc_bytes : List ℕ
  crc_bytes = numbered vs (l.step * N + l.crc_place)

  -- the line's tenth digit
  abbrev pub id_digit : ℕ
  id_digit = data_in 0 id_bytes % 16

-- what the lines' bytes must be
pub record MeetsValues (vs : List (List ℕ)) : Type 0 where
  pub form : (n : ℕ) → 1 ≤ n → n ≤ length vs → LineForm n (numbered vs n)
  pub laid : Laid vs
  pub device : Accepts29 (numbered vs 1)
  pub burn_last : BurnBytes (numbered vs (length vs))
  pub burn_once : (n : ℕ) → 1 ≤ n → n < length vs → BurnBytes (numbered vs n) → ⊥
  -- identifier lines and CRC lines carry C6, and the identifiers differ
  pub ids : (N : ℕ) → N < laid.configs → command_in (id_bytes laid N) ≡ 0xC6
  pub crcs : (N : ℕ) → N < laid.configs → command_in (crc_bytes laid N) ≡ 0xC6
  pub differ : (i j : ℕ) → j < i → i < laid.configs → id_digit laid i ≡ id_digit laid j → ⊥

-- the bytes that the lines of a text spell, one list for each line
pub data Spelled : List (List ℕ) → List (List ℕ) → Type 0 where
  none : Spelled [] []
  line : (t v : List ℕ) (ts vs : List (List ℕ)) → Spells t v → Spelled ts vs → Spelled (t ∷ ts) (v ∷ vs)

pub record Meets (s : List ℕ) : Type 0 where
  pub size : length s ≤ 65536
  pub lines : List (List ℕ)
  pub text : Text s lines
  pub values : List (List ℕ)
  pub spelled : Spelled lines values
  pub meets : MeetsValues values

-- ---- the statement: a file's number is 0 if and only if it is what it must be

pub record AcceptedExactly (s : List ℕ) : Type 0 where
  pub accepted_meets : (answer_told (check_of s).answer).number ≡ 0 → Meets s
  pub meets_accepted : Meets s → (answer_told (check_of s).answer).number ≡ 0

-- ---- the statement: what the summary says of such a file, by the same bytes

pub record SummarySays (s : List ℕ) (m : Meets s) : Type 0 where
  pub kind : (check_of s).summary.kind ≡ m.meets.laid.kind
  pub identity :
      let one = numbered m.values 1 in
      (check_of s).summary.identity ≡ word (data_in 0 one) (data_in 1 one) (data_in 2 one) (data_in 3 one)
  pub lines : (check_of s).summary.lines ≡ length m.values
  pub configs : (check_of s).summary.configs ≡ m.meets.laid.configs
  -- the text from there on has the lines behind the four of the header
  pub line5 : lines_of (drop (check_of s).summary.line5 s) ≡ drop 4 m.lines
  pub ids : (N : ℕ) → N < m.meets.laid.configs → get_or (check_of s).summary.ids N (config_id 0) ≡ config_id (id_digit m.meets.laid N)
  -- the lowest byte first
  pub crcs : (N : ℕ) → N < m.meets.laid.configs →
      let v = crc_bytes m.meets.laid N in
      get_or (check_of s).summary.crcs N 0 ≡ word (data_in 3 v) (data_in 2 v) (data_in 1 v) (data_in 0 v)
