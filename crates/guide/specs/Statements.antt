-- What is proved of the guide's list alone, for every accepted text, settings and replies (document 01, demand 3). The proofs
-- stand in proofs/. Assumes nothing.
use Rattle.std.specs.Prelude.{◌≡◌, Bool, true, false, cond, ℕ, suc, ◌+◌, ◌-◌, ◌*◌, ◌≤◌, eqb, length, get_or, Ok}
use mathlib.Core.List.{List, [], ◌∷◌, ◌++◌, Memᴰ}
use Rattle.counts.specs.Counts.{config_number}
use Rattle.line.specs.declared.Line.{Line}
use Rattle.cuts.specs.Lines.{lines_of}
use Rattle.line.specs.Digits.{digit_val, values_of}
use Rattle.summary.specs.declared.Summary.{Summary}
use Rattle.bus.specs.declared.Request.{Request}
use Rattle.bus.specs.ReplyForm.{form_of}
use Rattle.guide.specs.declared.Verdict.{Verdict}
use Rattle.guide.specs.declared.Target.{Target}
use Rattle.guide.specs.declared.Words.{Words}
use Rattle.guide.specs.Numbers.{verdict_told}
use Rattle.guide.specs.Terms.{Terms}
use Rattle.guide.specs.Judged.{fit_of}
use Rattle.guide.specs.Plan.{Reply, Mark, other, file_line, Asked, Plan, ended, requests, verdict}
use Rattle.guide.specs.Requests.{line_request}
use Rattle.guide.specs.Wire.{Wire}
use Rattle.guide.specs.Guide.{guide_for}
use Rattle.guide.specs.Matched.{Fits}

-- ---- the judgement passes exactly where the values match

pub record JudgedExactly (target : Target) (kept : ℕ) (read : Words) : Type 0 where
  pub passes : Fits target kept read → fit_of target kept read ≡ Ok tt
  pub matches : fit_of target kept read ≡ Ok tt → Fits target kept read

-- ---- the write lines among some requests, and the burn, which is line n

unfoldable pub is_line : Mark → Bool
is_line other = false
is_line (file_line i) = true

unfoldable pub lines_in : List Asked → List Asked
lines_in [] = []
lines_in (q ∷ qs) = cond (is_line q.mark) (q ∷ lines_in qs) (lines_in qs)

abbrev pub line_asked : ℕ → ℕ → Line → Asked
line_asked address i l = record { mark = file_line i; request = line_request address l }

unfoldable pub is_burn_mark : ℕ → Mark → Bool
is_burn_mark n other = false
is_burn_mark n (file_line i) = eqb i n

unfoldable pub burns_in : ℕ → List Asked → ℕ
burns_in n [] = 0
burns_in n (q ∷ qs) = cond (is_burn_mark n q.mark) (suc (burns_in n qs)) (burns_in n qs)

-- the requests before the burn, all of them if it is not there
unfoldable pub before_burn : ℕ → List Asked → List Asked
before_burn n [] = []
before_burn n (q ∷ qs) = cond (is_burn_mark n q.mark) [] (q ∷ before_burn n qs)

-- each of these requests has its reply, in form
pub data AllInForm : List Asked → List Reply → Type 0 where
  none : (rs : List Reply) → AllInForm [] rs
  more : (q : Asked) (qs : List Asked) (r : Reply) (rs : List Reply) (w : ℕ) → form_of q.request r.kind r.bytes ≡ Ok w → AllInForm qs rs
      → AllInForm (q ∷ qs) (r ∷ rs)

-- how often the burn's bytes stand among some requests, whatever their marks
unfoldable pub same_bytes : List ℕ → List ℕ → Bool
same_bytes [] [] = true
same_bytes [] (y ∷ ys) = false
same_bytes (x ∷ xs) [] = false
same_bytes (x ∷ xs) (y ∷ ys) = cond (eqb x y) (same_bytes xs ys) false

unfoldable pub spellings : Request → List Asked → ℕ
spellings burn [] = 0
spellings burn (q ∷ qs) = cond (same_bytes q.request.bytes burn.bytes) (suc (spellings burn qs)) (spellings burn qs)

-- by the terms, what the file says, its text, and the replies
module _ (T : Terms) (file : Summary) (text : List ℕ) (rs : List Reply) where
  abbrev pub list : List Asked
  list = requests (guide_for T file text) rs

  -- at most lines + poll limit + 3 x configurations + 9
  unfoldable pub Bounded : Type 0
  Bounded = length list ≤ file.lines + T.limit + 3 * file.configs + 9

  -- a request marked line i is line i of the text on the wire: with the address in use, the line's command and data, and their PEC; at C0,
  -- from its address to its CRC as it stands
  pub record MarksTell (W : Wire) : Type 0 where
    pub tells : (q : Asked) (i : ℕ) → Memᴰ q list → q.mark ≡ file_line i
        → (5 ≤ i) × (i ≤ file.lines) × (q.request ≡ W.line (values_of digit_val (get_or (lines_of text) (i - 1) [])))

  -- the burn's bytes are put out exactly as often as the burn is
  unfoldable pub SpelledOnce : Wire → Type 0
  SpelledOnce W = spellings W.burn list ≡ burns_in file.lines list

-- ---- of every plan

-- the list for some replies is a beginning of the list for these and more
unfoldable pub Begins : Plan → List Reply → List Reply → Type 0
Begins p rs later = (rest : List Asked) × (requests p (rs ++ later) ≡ requests p rs ++ rest)

-- replies after the verdict change nothing
unfoldable pub Settled : Plan → List Reply → List Reply → Type 0
Settled p rs later =
    (v : Verdict) → verdict p rs ≡ ended v → (verdict p (rs ++ later) ≡ ended v) × (requests p (rs ++ later) ≡ requests p rs)

-- N is 0 unless the verdict is 31
unfoldable pub OnlyMismatch : Verdict → Type 0
OnlyMismatch v = ((verdict_told v).number ≡ 31 → ⊥) → (verdict_told v).config ≡ config_number 0
