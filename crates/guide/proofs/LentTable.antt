-- By a table that keeps its rule, a write line whose parts are bytes goes out as its request. Assumes nothing.
use mathlib.Core.Path.{◌≡◌, refl}
use mathlib.Core.List.{List, [], ◌∷◌}
use native.Mathlib.Omega.{arith}
use lib.ListN.{length, get_or}
use Prim.Native.Nat.{ℕ, ◌<◌}
use Rattle.pec.specs.Lent.{IsTable}
use Rattle.line.specs.declared.Line.{Line}
use Rattle.line.specs.Reading.{byte, IsBytes}
use Rattle.bus.proofs.Laws.{four_bytes, write_right}
use Rattle.guide.specs.Requests.{line_data, line_request, line_request_with}

-- the bytes of a line are four
pub four_bytes_of : (l : Line) → length l.bytes ≡ 4 → l.bytes ≡ byte l 0 ∷ byte l 1 ∷ byte l 2 ∷ byte l 3 ∷ []
four_bytes_of l h = all_four l.bytes h
  where
    all_four : (bs : List ℕ) → length bs ≡ 4 → bs ≡ get_or bs 0 0 ∷ get_or bs 1 0 ∷ get_or bs 2 0 ∷ get_or bs 3 0 ∷ []
    all_four (a ∷ b ∷ c ∷ d ∷ []) e = refl
    all_four [] e = absurd (let y : ⊥ = omega arith in y)
    all_four (a ∷ []) e = absurd (let y : ⊥ = omega arith in y)
    all_four (a ∷ b ∷ []) e = absurd (let y : ⊥ = omega arith in y)
    all_four (a ∷ b ∷ c ∷ []) e = absurd (let y : ⊥ = omega arith in y)
    all_four (a ∷ b ∷ c ∷ d ∷ f ∷ g) e = absurd (let y : ⊥ = omega arith in y)

pub request_right : (address : ℕ) → address < 256 → {table : List ℕ} → IsTable table → (l : Line) → IsBytes l
    → line_request_with address table l ≡ line_request address l
unfolding line_request_with line_request line_data
request_right address a rule l h =
    write_right address l.command l.count _ a h.command (four_bytes (h.bytes 0) (h.bytes 1) (h.bytes 2) (h.bytes 3)) rule
