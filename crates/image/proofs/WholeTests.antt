-- The tests of the whole file that look at its lines, each by their bytes: the burn, the spots and the identifiers. A test that is false
-- gives what must be, and one that is true gives what is amiss. Assumes nothing.
use mathlib.Core.Path.{◌≡◌, sym, ap, ◌∙◌}
use mathlib.Core.Logic.{◌⊎◌, inl, inr}
use mathlib.Core.Bool.{true, false, not, true≢false}
use mathlib.Core.List.{List}
use Prim.Native.Nat.{ℕ, ◌+◌, ◌-◌, ◌≤◌, ◌<◌}
use native.Mathlib.Omega.{arith}
use lib.Dec.{eqb}
use lib.ListN.{length}
use borrow.Author.Tests.{eqb-true, eq-eqb, eqb-false, not-true, not-false}
use Rattle.counts.specs.declared.ConfigId.{ConfigId}
use Rattle.counts.specs.Counts.{line_number}
use Rattle.line.specs.Reading.{line_of}
use Rattle.line.specs.declared.Line.{Line}
use Rattle.promise.proofs.Basics.{split}
use Rattle.image.specs.Says.{id_of, is_c6, file_configs, id_line, config_crc_line}
use Rattle.summary.specs.Burn.{is_burn}
use Rattle.image.specs.Tests.{burn_at, burn_amiss, other_spot, same_ids}
use Rattle.image.specs.Meets.{command_in, BurnBytes, numbered, Laid, id_bytes, crc_bytes, id_digit, Spelled}
use Rattle.image.proofs.Search.{none_below, some_below_lem, must_pass}
use Rattle.image.proofs.LineBytes.{burn_bytes, bytes_burn, id_is}
use Rattle.image.proofs.LinesAndBytes.{Forms, spelled-length, says}
use Rattle.image.proofs.LaidOut.{configs_are, id_line_lem, crc_line_lem, id_form}

-- the burn is the last line, and no earlier one
pub record BurnLast (vs : List (List ℕ)) : Type 0 where
  pub last : BurnBytes (numbered vs (length vs))
  pub once : (n : ℕ) → 1 ≤ n → n < length vs → BurnBytes (numbered vs n) → ⊥

-- the last line is not the burn, or an earlier one is
abbrev pub BurnAmiss : List (List ℕ) → Type 0
BurnAmiss vs = (BurnBytes (numbered vs (length vs)) → ⊥) ⊎ ((n : ℕ) × (1 ≤ n) × (n < length vs) × BurnBytes (numbered vs n))

-- an identifier or CRC line is not C6
abbrev pub SpotAmiss : {vs : List (List ℕ)} → Laid vs → ℕ → Type 0
SpotAmiss l N = (command_in (id_bytes l N) ≡ 0xC6 → ⊥) ⊎ (command_in (crc_bytes l N) ≡ 0xC6 → ⊥)

module _ {ls vs : List (List ℕ)} (spelled : Spelled ls vs) (forms : Forms vs) where
  -- ---- the burn
  burn_here : (i : ℕ) → burn_at ls i ≡ is_burn (line_of (numbered vs (i + 1)))
  unfolding burn_at
  burn_here i = ap is_burn (says spelled (line_number (i + 1)))

  burn_at_lem : (n : ℕ) → 1 ≤ n → burn_at ls (n - 1) ≡ is_burn (line_of (numbered vs n))
  burn_at_lem n h = let e : n - 1 + 1 ≡ n = omega arith in rw e at (burn_here (n - 1))

  module _ (some : 1 ≤ length vs) where
    pub burn_last_lem : burn_amiss ls ≡ false → BurnLast vs
    unfolding burn_amiss
    burn_last_lem e =
        let size = spelled-length spelled in
        let p = must_pass (burn_at ls (length ls - 1)) _ e in
        record {
          last = burn_bytes (forms (length vs) some (omega arith)) (sym (burn_at_lem (length vs) some) ∙ (rw size at p.0));
          once = λ n g k b.
              let none = none_below (burn_at ls) (length ls - 1) p.1 (n - 1) (omega arith) in
              true≢false (sym (bytes_burn (forms n g (omega arith)) b) ∙ sym (burn_at_lem n g) ∙ none);
        }

    pub burn_amiss_lem : burn_amiss ls ≡ true → BurnAmiss vs
    unfolding burn_amiss
    burn_amiss_lem e =
        let size = spelled-length spelled in
        split (burn_at ls (length ls - 1))
        (λ g. let q = some_below_lem (burn_at ls) (length ls - 1) (simp g at e) in
        let n = q.0 + 1 in
        let inside : n < length vs = omega (arith, q.1) in
        inr (n, omega arith, inside, burn_bytes (forms n (omega arith) (omega arith)) (sym (burn_here q.0) ∙ q.2)))
        (λ g. inl (λ b.
        true≢false (sym (bytes_burn (forms (length vs) some (omega arith)) b) ∙ sym (burn_at_lem (length vs) some) ∙ (rw size at g))))

  -- ---- the spots
  module _ (l : Laid vs) where
    id_c6 : (N : ℕ) → is_c6 (id_line ls N) ≡ eqb (command_in (id_bytes l N)) 0xC6
    unfolding is_c6 line_of
    id_c6 N = ap is_c6 (id_line_lem spelled forms l N)

    crc_c6 : (N : ℕ) → is_c6 (config_crc_line ls N) ≡ eqb (command_in (crc_bytes l N)) 0xC6
    unfolding is_c6 line_of
    crc_c6 N = ap is_c6 (crc_line_lem spelled forms l N)

    pub spots_c6 : other_spot ls ≡ false → (N : ℕ) → N < l.configs → (command_in (id_bytes l N) ≡ 0xC6) × (command_in (crc_bytes l N) ≡ 0xC6)
    unfolding other_spot
    spots_c6 e N h =
        let none = none_below _ (file_configs ls) e N (omega (arith, configs_are spelled forms l)) in
        let p = must_pass (is_c6 (id_line ls N)) (not (is_c6 (config_crc_line ls N))) none in
        (eqb-true _ 0xC6 (sym (id_c6 N) ∙ p.0), eqb-true _ 0xC6 (sym (crc_c6 N) ∙ not-false _ p.1))

    pub spot_amiss : other_spot ls ≡ true → (N : ℕ) × (N < l.configs) × SpotAmiss l N
    unfolding other_spot
    spot_amiss e =
        let q = some_below_lem _ (file_configs ls) e in
        let N = q.0 in
        let amiss : SpotAmiss l N =
        split (is_c6 (id_line ls N))
        (λ g. inr (λ c. true≢false (sym (crc_c6 N ∙ eq-eqb _ 0xC6 c) ∙ not-true _ (simp g at q.2))))
        (λ g. inl (λ c. true≢false (sym (id_c6 N ∙ eq-eqb _ 0xC6 c) ∙ g))) in
        (N, omega (arith, q.1, configs_are spelled forms l), amiss)

    -- ---- their identifiers
    id_at_lem : (N : ℕ) → N < l.configs → (id_of (id_line ls N)).0 ≡ id_digit l N
    id_at_lem N h = ap (λ (x : Line). (id_of x).0) (id_line_lem spelled forms l N) ∙ ap (λ (x : ConfigId). x.0) (id_is (id_form l forms N h))

    pub ids_differ : same_ids ls ≡ false → (i j : ℕ) → j < i → i < l.configs → id_digit l i ≡ id_digit l j → ⊥
    unfolding same_ids
    ids_differ e i j g h q =
        let row = none_below _ (file_configs ls) e i (omega (arith, configs_are spelled forms l)) in
        eqb-false (id_of (id_line ls i)).0 (id_of (id_line ls j)).0 (none_below _ i row j g) (id_at_lem i h ∙ q ∙ sym (id_at_lem j (omega arith)))

    pub ids_same : same_ids ls ≡ true → (i : ℕ) × (j : ℕ) × (j < i) × (i < l.configs) × (id_digit l i ≡ id_digit l j)
    unfolding same_ids
    ids_same e =
        let p = some_below_lem _ (file_configs ls) e in
        let q = some_below_lem _ p.0 p.2 in
        let h : p.0 < l.configs = omega (arith, p.1, configs_are spelled forms l) in
        let g : q.0 < l.configs = omega (arith, q.1) in
        (p.0, q.0, q.1, h, sym (id_at_lem p.0 h) ∙ eqb-true (id_of (id_line ls p.0)).0 (id_of (id_line ls q.0)).0 q.2 ∙ id_at_lem q.0 g)
