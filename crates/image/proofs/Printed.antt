-- Document 01's sentence is the guide's table, and what is accepted is what stands there. Assumes nothing.
use mathlib.Core.Path.{◌≡◌, refl}
use mathlib.Core.List.Memᴰ
use mathlib.Core.List.{List, Memᴰ}
use Prim.Native.Nat.{ℕ, ◌/◌, ◌%◌, ◌<◌}
use native.Mathlib.Omega.{arith}
use Rattle.image.specs.Parts.{identities, parts}
use Rattle.image.specs.Says.{word}
use Rattle.image.specs.Meets.{data_in, Accepts29}
use Rattle.image.specs.Printed.{Condensed, identity_in, PrintedExactly, PrintedOnly}
use Rattle.image.proofs.AcceptedExactly.{accepted_exactly}
use Rattle.image.proofs.SummarySays.{summary_says}

pub condensed : Condensed
unfolding word
condensed = record { middles = refl; whole = refl }

-- four bytes are told by the number that they are together
apart : (a b c d m : ℕ) → a < 256 → b < 256 → c < 256 → d < 256 → m < 256 → word 0x49 0xD2 m 0x00 ≡ word a b c d →
    (a ≡ 0x49) × (b ≡ 0xD2) × (c ≡ m) × (d ≡ 0x00)
unfolding word
apart a b c d m ha hb hc hd hm e = (omega arith, omega arith, omega arith, omega arith)

middle_byte : {m : ℕ} → Memᴰ m parts → m < 256
middle_byte h =
    let found = Memᴰ.of_map (λ identity. identity / 256 % 256) identities h in
    let is = found.2 in
    omega arith

module _ (v : List ℕ) where
  printed : Accepts29 v → Memᴰ (identity_in v) identities
  unfolding word
  printed a = rw (condensed.whole, a.first, a.second, a.last) (Memᴰ.map (λ middle. word 0x49 0xD2 middle 0x00) a.middle)

  accepted : ((i : ℕ) → data_in i v < 256) → Memᴰ (identity_in v) identities → Accepts29 v
  accepted bytes h =
      let found = Memᴰ.of_map (λ middle. word 0x49 0xD2 middle 0x00) parts (rw condensed.whole at h) in
      let is = apart _ _ _ _ _ (bytes 0) (bytes 1) (bytes 2) (bytes 3) (middle_byte found.1) found.2 in
      record { first = is.0; second = is.1; middle = Memᴰ.cast is.2 found.1; last = is.3 }

  pub printed_exactly : PrintedExactly v
  printed_exactly = record { accepted_printed = printed; printed_accepted = accepted }

pub printed_only : (s : List ℕ) → PrintedOnly s
unfolding PrintedOnly
printed_only s e =
    let m = (accepted_exactly s).accepted_meets e in
    Memᴰ.cast (summary_says m).identity (printed _ m.meets.device)
