-- A list of five bytes or more is tag, length, address, command, data and CRC, and the parts that reading names are those.
-- Assumes nothing.
use mathlib.Core.Path.{◌≡◌, refl, sym, ap, ◌∙◌}
use mathlib.Core.List.{List, [], ◌∷◌, ◌++◌}
use Prim.Native.Nat.{ℕ, suc, ◌+◌, ◌-◌, ◌≤◌}
use native.Mathlib.Omega.{arith}
use lib.ListN.{length, take, length-append}
use lib.Seq.{take-suc, take-length, take_at, get_or_at}
use Rattle.line.specs.Reading.{covered_of, last_of}

abbrev pub layout : ℕ → ℕ → ℕ → ℕ → List ℕ → ℕ → List ℕ
layout tag size address command content crc = tag ∷ size ∷ address ∷ command ∷ (content ++ (crc ∷ []))

-- the CRC is the last byte, and covers what stands between it and the length byte, however much that is
module _ (tag size : ℕ) (covered : List ℕ) (crc : ℕ) where
  before_crc : length (tag ∷ size ∷ (covered ++ (crc ∷ []))) - 1 ≡ suc (suc (length covered))
  before_crc = omega (arith, length-append covered (crc ∷ []))

  pub framed_last : last_of (tag ∷ size ∷ (covered ++ (crc ∷ []))) ≡ crc
  framed_last = rw before_crc (get_or_at covered crc [] 0 (length covered) refl)

  pub framed_covered : covered_of (tag ∷ size ∷ (covered ++ (crc ∷ []))) ≡ covered
  framed_covered = rw before_crc (take_at covered (crc ∷ []) (length covered) refl)

module _ (tag size address command : ℕ) (content : List ℕ) (crc : ℕ) where
  pub layout-length : length (layout tag size address command content crc) ≡ 5 + length content
  layout-length = omega (arith, length-append content (crc ∷ []))

  pub layout_last : last_of (layout tag size address command content crc) ≡ crc
  layout_last = framed_last tag size (address ∷ command ∷ content) crc

  pub layout_covered : covered_of (layout tag size address command content crc) ≡ address ∷ command ∷ content
  layout_covered = framed_covered tag size (address ∷ command ∷ content) crc

-- ---- every such list has it

pub record Layout (v : List ℕ) : Type 0 where
  pub tag : ℕ
  pub size : ℕ
  pub address : ℕ
  pub command : ℕ
  pub content : List ℕ
  pub crc : ℕ
  pub bytes : v ≡ layout tag size address command content crc

pub last_off : (w : List ℕ) → 1 ≤ length w → w ≡ take (length w - 1) w ++ (last_of w ∷ [])
last_off w h =
    let e : length w ≡ suc (length w - 1) = omega arith in
    sym (take-length w) ∙ ap (λ (k : ℕ). take k w) e ∙ take-suc w (length w - 1) 0 (omega arith)

pub layout_of : (v : List ℕ) → 5 ≤ length v → Layout v
layout_of [] h = absurd (let y : ⊥ = omega arith in y)
layout_of (a ∷ []) h = absurd (let y : ⊥ = omega arith in y)
layout_of (a ∷ b ∷ []) h = absurd (let y : ⊥ = omega arith in y)
layout_of (a ∷ b ∷ c ∷ []) h = absurd (let y : ⊥ = omega arith in y)
layout_of (a ∷ b ∷ c ∷ d ∷ w) h =
    record {
      tag = a;
      size = b;
      address = c;
      command = d;
      content = take (length w - 1) w;
      crc = last_of w;
      bytes = ap (λ (l : List ℕ). a ∷ b ∷ c ∷ d ∷ l) (last_off w (omega arith));
    }
