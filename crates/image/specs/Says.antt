-- What the lines of a file say, one by one (document 01, "The whole file"): by their numbers, counted from 1, and by the bytes
-- that their digits spell. Assumes nothing.
use Rattle.std.specs.Prelude.{ℕ, ◌+◌, ◌-◌, ◌*◌, ◌%◌, Bool, cond, List, [], ◌∷◌, eqb, ltb, length, get_or, Option, Some, None}
use Rattle.counts.specs.declared.ConfigId.{ConfigId}
use Rattle.counts.specs.declared.LineNumber.{LineNumber}
use Rattle.counts.specs.declared.Kind.{Kind}
use Rattle.counts.specs.declared.Kind.TheVariants.{Legacy}
use Rattle.counts.specs.Counts.{line_number, config_number, config_id, kind_of, configs_of, identifier_line, crc_line}
use Rattle.line.specs.declared.Line.{Line}
use Rattle.cuts.specs.Lines.{lines_of, place_of}
use Rattle.line.specs.Digits.{digit_val, values_of}
use Rattle.line.specs.Reading.{byte, line_of}
use Rattle.summary.specs.declared.Summary.{Summary}

-- four bytes as a number, the highest first
unfoldable pub word : ℕ → ℕ → ℕ → ℕ → ℕ
word a b c d = 16777216 * a + 65536 * b + 256 * c + d

-- the device identity, highest byte first
unfoldable pub identity_of : Line → ℕ
identity_of l = word (byte l 0) (byte l 1) (byte l 2) (byte l 3)

-- the identifier: the line's tenth digit, which is the low half of the first data byte
unfoldable pub id_of : Line → ConfigId
id_of l = config_id (byte l 0 % 16)

-- the configuration CRC: the four data bytes, lowest first
unfoldable pub crc_of : Line → ℕ
crc_of l = word (byte l 3) (byte l 2) (byte l 1) (byte l 0)

unfoldable pub is_c6 : Line → Bool
is_c6 l = eqb l.command 0xC6

-- Legacy where the revision is none that is known: such a file is refused
unfoldable pub kind_in : Option Kind → Kind
kind_in (Some kind) = kind
kind_in None = Legacy

-- of a file's lines
module _ (ls : List (List ℕ)) where
  -- what the line with this number says
  unfoldable pub line_no : LineNumber → Line
  line_no n = line_of (values_of digit_val (get_or ls (n.0 - 1) []))

  -- the revision's first byte says the kind
  unfoldable pub revision_says : Option Kind
  revision_says = kind_of (byte (line_no (line_number 2)) 0)

  unfoldable pub file_kind : Kind
  file_kind = kind_in revision_says

  -- k, and 0 where the lines fit no k from 1 to 8
  unfoldable pub file_configs : ℕ
  file_configs = configs_of file_kind (length ls)

  -- the identifier line and the CRC line of configuration N
  unfoldable pub id_line : ℕ → Line
  id_line N = line_no (identifier_line file_kind (config_number N))

  unfoldable pub config_crc_line : ℕ → Line
  config_crc_line N = line_no (crc_line file_kind (config_number N))

-- eight places: what `f` gives for each N under k, and `d` behind them
module _ {A : Type 0} (k : ℕ) (f : ℕ → A) (d : A) where
  abbrev pub place_in : ℕ → A
  place_in N = cond (ltb N k) (f N) d

  unfoldable pub eight_of : List A
  eight_of = place_in 0 ∷ place_in 1 ∷ place_in 2 ∷ place_in 3 ∷ place_in 4 ∷ place_in 5 ∷ place_in 6 ∷ place_in 7 ∷ []

-- what an accepted file says
unfoldable pub summary_of : List ℕ → Summary
summary_of s =
    let ls = lines_of s in
    record {
      kind = file_kind ls;
      identity = identity_of (line_no ls (line_number 1));
      lines = length ls;
      configs = file_configs ls;
      line5 = place_of 4 s;
      ids = eight_of (file_configs ls) (λ N. id_of (id_line ls N)) (config_id 0);
      crcs = eight_of (file_configs ls) (λ N. crc_of (config_crc_line ls N)) 0;
    }
