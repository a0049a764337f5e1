-- The request of a write line is the write of its command and data, and so is what is on the wire for it: with the address in use, and at C0
-- as it stands. It has the burn's bytes exactly where the line is the burn. Assumes nothing.
use mathlib.Core.Path.{◌≡◌, refl, sym, ap, ◌∙◌, subst}
use mathlib.Core.Logic.{◌⊎◌, inl, inr, ⊎_elim}
use mathlib.Core.Bool.{Bool, true, false, cond}
use mathlib.Core.List.{List, [], ◌∷◌, ◌++◌}
use Prim.Native.Nat.{ℕ, suc, ◌+◌, ◌-◌, ◌≤◌}
use native.Mathlib.Omega.{arith}
use lib.Dec.{eqb}
use lib.ListN.{length, take, drop, length-append}
use lib.Seq.{take-append_seam}
use borrow.Author.Tests.{eqb-true}
use Rattle.pec.specs.Pec.{top_bit, shift, shifts, remainder, step, pec_from, pec}
use Rattle.line.specs.Reading.{line_of}
use Rattle.promise.proofs.Basics.{and_true}
use Rattle.line.specs.LineForm.{Row, identity, revision, third, fourth, two, four, LineForm}
use Rattle.line.proofs.GoodExactly.{good_form}
use Rattle.image.specs.Meets.{BurnBytes}
use Rattle.bus.specs.declared.Request.{Request}
use Rattle.bus.specs.Bus.{eight, framed, write_of}
use Rattle.guide.specs.Requests.{line_data, line_request}
use Rattle.guide.specs.Wire.{Wire, addressed, in_use, as_it_stands, as_they_stand, RightAt, ReadsAs}
use Rattle.guide.specs.Statements.{same_bytes}

-- ---- what is on the wire for a line

abbrev writes : List ℕ → ℕ → Request
writes bs used = record { bytes = bs; used = used; reads = false }

module _ (tag command : ℕ) (content : List ℕ) where
  abbrev own : ℕ
  own = pec (0xC0 ∷ command ∷ content)

  -- the bytes of a line by its parts
  abbrev laid : List ℕ
  laid = tag ∷ (3 + length content) ∷ 0xC0 ∷ command ∷ (content ++ (own ∷ []))

  sized : length (content ++ (own ∷ [])) ≡ length content + 1
  sized = simp length-append (omega arith)

  -- command and data, without the last byte
  laid_body : take (length laid - 4) (drop 3 laid) ≡ command ∷ content
  laid_body =
      let k : length laid - 4 ≡ suc (length content) = omega (arith, sized) in
      rw k (ap (λ (l : List ℕ). command ∷ l) (take-append_seam content (own ∷ [])))

  laid_addressed : (address : ℕ) → addressed address laid ≡ write_of address command content
  unfolding write_of framed
  laid_addressed address =
      let used : length laid - 2 ≡ length (address ∷ command ∷ content) + 1 = omega (arith, sized) in
      ap (λ (body : List ℕ). writes (eight (address ∷ (body ++ (pec (address ∷ body) ∷ [])))) (length laid - 2)) laid_body
      ∙ ap (λ (u : ℕ). writes (eight (address ∷ command ∷ (content ++ (pec (address ∷ command ∷ content) ∷ [])))) u) used

  laid_stands : as_it_stands laid ≡ write_of 0xC0 command content
  unfolding write_of framed
  laid_stands =
      let used : length laid - 2 ≡ length (0xC0 ∷ command ∷ content) + 1 = omega (arith, sized) in
      ap (λ (u : ℕ). writes (eight (drop 2 laid)) u) used

pub in_use_lem : (address : ℕ) → RightAt address (in_use address)
unfolding write_of framed eight
in_use_lem address =
    record {
      line = λ n v f. ap (addressed address) f.bytes ∙ laid_addressed f.tag f.command f.content address;
      burn = refl;
    }

pub stands : RightAt 0xC0 as_they_stand
unfolding write_of framed eight pec_from step remainder shifts shift top_bit
stands = record { line = λ n v f. ap as_it_stands f.bytes ∙ laid_stands f.tag f.command f.content; burn = refl }

-- ---- the request of a write line

-- a write line's command and the count of its data bytes
abbrev Takes : ℕ → ℕ → Type 0
Takes command count = (((command ≡ 0xC7) ⊎ (command ≡ 0xE7)) × (count ≡ 2)) ⊎ (((command ≡ 0xC5) ⊎ (command ≡ 0xC6)) × (count ≡ 4))

row_takes : {n tag command count : ℕ} → Row n tag command count → 5 ≤ n → Takes command count
row_takes identity h = absurd (let y : ⊥ = omega arith in y)
row_takes revision h = absurd (let y : ⊥ = omega arith in y)
row_takes (third count f g) h = absurd (let y : ⊥ = omega arith in y)
row_takes (fourth count f g) h = absurd (let y : ⊥ = omega arith in y)
row_takes (two n command k e) h = inl (e, refl)
row_takes (four n command k e) h = inr (e, refl)

no_count : {A : Type 0} {command count : ℕ} → Takes command count → (count ≡ 2 → ⊥) → (count ≡ 4 → ⊥) → A
no_count t f g = absurd (⊎_elim (λ x. f x.1) (λ x. g x.1) t)

burn_begins : (address command a b : ℕ) (more : Bool)
    → cond (eqb address address) (cond (eqb command 0xE7) (cond (eqb a 0x08) (cond (eqb b 0x00) more false) false) false) false ≡ true
    → (command ≡ 0xE7) × (a ≡ 0x08) × (b ≡ 0x00)
burn_begins address command a b more e =
    let o = and_true (eqb address address) _ e in
    let p = and_true (eqb command 0xE7) _ o.1 in
    let q = and_true (eqb a 0x08) _ p.1 in
    let r = and_true (eqb b 0x00) more q.1 in
    (eqb-true command 0xE7 p.0, eqb-true a 0x08 q.0, eqb-true b 0x00 r.0)

-- a burn has two data bytes
no_four : {A : Type 0} (command : ℕ) → Takes command 4 → command ≡ 0xE7 → A
no_four command (inl (f, e)) g = absurd (let y : ⊥ = omega arith in y)
no_four command (inr (inl f, e)) g = absurd (let y : ⊥ = omega arith in y)
no_four command (inr (inr f, e)) g = absurd (let y : ⊥ = omega arith in y)

module _ (address : ℕ) where
  abbrev pub burning : Request
  burning = write_of address 0xE7 (0x08 ∷ 0x00 ∷ [])

  -- what is shown of a line of this command and these data bytes
  pub record Spelt (v : List ℕ) (command : ℕ) (content : List ℕ) : Type 0 where
    pub own : line_request address (line_of v) ≡ write_of address command content
    pub burn : BurnBytes v → write_of address command content ≡ burning
    pub only : same_bytes (write_of address command content).bytes burning.bytes ≡ true → BurnBytes v

  spelt : (tag command : ℕ) (content : List ℕ) → Takes command (length content) → Spelt (laid tag command content) command content
  unfolding line_request line_of line_data write_of framed eight same_bytes
  spelt tag command [] t = no_count t (λ e. omega arith) (λ e. omega arith)
  spelt tag command (a ∷ []) t = no_count t (λ e. omega arith) (λ e. omega arith)
  spelt tag command (a ∷ b ∷ []) t =
      record {
        own = refl;
        burn = λ x.
            let f : command ≡ 0xE7 = x.command in
            let g : a ≡ 0x08 = x.low in
            let h : b ≡ 0x00 = x.high in
            rw (f, g, h);
        only = λ e. let p = burn_begins address command a b _ e in record { command = p.0; low = p.1; high = p.2 };
      }
  spelt tag command (a ∷ b ∷ c ∷ []) t = no_count t (λ e. omega arith) (λ e. omega arith)
  spelt tag command (a ∷ b ∷ c ∷ d ∷ []) t =
      record {
        own = refl;
        burn = λ x. no_four command t x.command;
        only = λ e. let p = burn_begins address command a b _ e in record { command = p.0; low = p.1; high = p.2 };
      }
  spelt tag command (a ∷ b ∷ c ∷ d ∷ x ∷ content) t = no_count t (λ e. omega arith) (λ e. omega arith)

  pub line_spelt : (n : ℕ) (v : List ℕ) → 5 ≤ n → (f : LineForm n v) → Spelt v f.command f.content
  line_spelt n v h f =
      subst (λ (x : List ℕ). Spelt x f.command f.content) (sym f.bytes) (spelt f.tag f.command f.content (row_takes f.row h))

  module _ (W : Wire) (right : RightAt address W) where
    pub line_out_lem : (n : ℕ) (v : List ℕ) → 5 ≤ n → LineForm n v → line_request address (line_of v) ≡ W.line v
    line_out_lem n v h f = (line_spelt n v h f).own ∙ sym (right.line n v f)

    pub burn_out : (n : ℕ) (v : List ℕ) → 5 ≤ n → LineForm n v → BurnBytes v → W.line v ≡ W.burn
    burn_out n v h f b = right.line n v f ∙ ((line_spelt n v h f).burn b ∙ sym right.burn)

    -- for every write line that reads
    pub reads_as : ReadsAs address W
    unfolding ReadsAs
    reads_as n t l h e =
        let f = good_form n t l (omega arith) e in
        ap (line_request address) f.line ∙ line_out_lem n.0 _ h f.form

-- with the address in use, and at C0 as it stands, last byte included
pub line_in_use : (address : ℕ) → ReadsAs address (in_use address)
line_in_use address = reads_as address (in_use address) (in_use_lem address)

pub line_at_C0 : ReadsAs 0xC0 as_they_stand
line_at_C0 = reads_as 0xC0 as_they_stand stands
