-- What the private functions are held to that take a write line by the places of its digits. Nothing public cites this page.
-- Assumes nothing.
use Rattle.std.specs.Prelude.{ℕ, ◌-◌, Bool, false, cond, List, get_or, take, drop, eqb, Option, None}
use Rattle.line.specs.Digits.{is_digit, all_digits}
use Rattle.line.specs.Lent.{ending_of}

-- tag 00, this length, address C0
unfoldable pub headed : List ℕ → ℕ → Bool
headed v size = cond (eqb (get_or v 0 0) 0) (cond (eqb (get_or v 1 0) size) (eqb (get_or v 2 0) 0xC0) false) false

-- what stands at e, where the run of digits from a place ends there
unfoldable pub ends_run : (ℕ → ℕ) → ℕ → ℕ → List ℕ → Option ℕ
ends_run digit at e s =
    cond (all_digits digit (take (e - at) (drop at s)))
    (cond (is_digit digit (get_or s e 0)) None (ending_of e (drop e s)))
    None
