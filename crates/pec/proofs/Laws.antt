-- Laws of the PEC's definitions, which callers use in place of their text. Assumes nothing.
use mathlib.Core.Path.{◌≡◌, refl, ◌∙◌}
use mathlib.Core.Bool.{Bool, true, false, cond}
use mathlib.Core.List.{List, [], ◌∷◌, ◌++◌}
use Prim.Native.Nat.{ℕ, zero, suc, ◌+◌, ◌*◌, ◌%◌, ◌<◌}
use native.Mathlib.Omega.{arith}
use native.Mathlib.Numerals.{add-one}
use lib.Dec.{lit<}
use lib.Bits.{bit_xor, xor_lt, xor_self}
use lib.ListN.{length, get_or, take}
use lib.Seq.{take-suc}
use Rattle.pec.specs.Pec.{top_bit, shift, shifts, remainder, step, pec_from, pec}
use Rattle.pec.specs.Lent.{IsTable, step_with, run_with}

-- ---- a register is a byte

either_lt : (top : Bool) (a b : ℕ) → a < 256 → b < 256 → cond top a b < 256
either_lt true a b g h = g
either_lt false a b g h = h

shift-lt : (c : ℕ) → shift c < 256
unfolding shift
shift-lt c = xor_lt 8 (2 * c % 256) _ (omega arith) (either_lt (top_bit c) _ _ (lit< tt) (lit< tt))

shifts-lt : (n c : ℕ) → c < 256 → shifts n c < 256
unfolding shifts
shifts-lt zero c h = h
shifts-lt (suc n) c h = shifts-lt n (shift c) (shift-lt c)

pub remainder-lt : (b : ℕ) → remainder b < 256
unfolding remainder shifts
remainder-lt b = shifts-lt 7 (shift b) (shift-lt b)

pub step-lt : (c b : ℕ) → step c b < 256
unfolding step
step-lt c b = remainder-lt _

pub pec_from-lt : (c : ℕ) (bs : List ℕ) → c < 256 → pec_from c bs < 256
unfolding pec_from
pec_from-lt c [] h = h
pec_from-lt c (b ∷ bs) h = pec_from-lt (step c b) bs (step-lt c b)

pub pec-lt : (bs : List ℕ) → pec bs < 256
pec-lt bs = pec_from-lt 0 bs (lit< tt)

-- ---- bytes one after the other, and lists one behind the other

pub pec_from-append : (c : ℕ) (xs ys : List ℕ) → pec_from c (xs ++ ys) ≡ pec_from (pec_from c xs) ys
unfolding pec_from
pec_from-append c [] ys = refl
pec_from-append c (x ∷ xs) ys = pec_from-append (step c x) xs ys

-- a code behind the bytes that it is of leaves 0
pub pec_closed : (bs : List ℕ) → pec (bs ++ (pec bs ∷ [])) ≡ 0
unfolding pec_from step remainder shifts shift top_bit
pec_closed bs = pec_from-append 0 bs (pec bs ∷ []) ∙ rw (xor_self (pec bs))

pub run_with-append : (table : List ℕ) (c : ℕ) (xs ys : List ℕ) → run_with table c (xs ++ ys) ≡ run_with table (run_with table c xs) ys
unfolding run_with
run_with-append table c [] ys = refl
run_with-append table c (x ∷ xs) ys = run_with-append table (step_with table c x) xs ys

-- ---- a loop over a slice: the bytes before i + 1, by those before i

pub one_byte_more : (table : List ℕ) (c : ℕ) (s : List ℕ) (i : ℕ) → i < length s →
    run_with table c (take (i + 1) s) ≡ step_with table (run_with table c (take i s)) (get_or s i 0)
unfolding run_with
one_byte_more table c s i h = rw (add-one, take-suc s i 0, run_with-append)

-- ---- a table that keeps the rule gives the PEC's own steps

module _ {table : List ℕ} (rule : IsTable table) where
  pub step_right : (c b : ℕ) → c < 256 → b < 256 → step_with table c b ≡ step c b
  unfolding step_with step
  step_right c b h k = rule.entry (bit_xor c b) (xor_lt 8 c b h k)

  pub run_right : (c : ℕ) (bs : List ℕ) → c < 256 → ((i : ℕ) → get_or bs i 0 < 256) → run_with table c bs ≡ pec_from c bs
  unfolding run_with pec_from
  run_right c [] h bytes = refl
  run_right c (b ∷ bs) h bytes =
      rw (step_right c b h (bytes 0)) (run_right (step c b) bs (step-lt c b) (λ i. bytes (suc i)))
