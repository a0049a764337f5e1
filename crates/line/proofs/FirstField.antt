-- The place of a line that breaks the table is that of the first field that no row has with the fields before it. Assumes nothing.
use mathlib.Core.Path.{◌≡◌, refl, sym, ◌∙◌}
use mathlib.Core.Bool.{true, false, cond, true≢false}
use mathlib.Core.Logic.{inl, inr}
use Prim.Native.Nat.{ℕ, ◌≤◌}
use native.Mathlib.Omega.{arith}
use lib.Dec.{eqb, leb}
use borrow.Author.Tests.{leb-true, leb-false, lt-leb, eqb-true, eqb-false, eq-eqb, ne_eqb}
use Rattle.line.specs.Places.{tag_of, command_ok, form_place}
use Rattle.line.specs.Reading.{form_ok}
use Rattle.line.specs.LineForm.{Row, identity, revision, third, fourth, two, four}
use Rattle.line.specs.LineTable.{FirstField, by_tag, by_address, by_command, by_count}
use Rattle.promise.proofs.Basics.{split}
use Rattle.line.proofs.Rows.{row_ok, ok_row}

-- ---- tag and command of the rows

row_tag : {n tag c k : ℕ} → Row n tag c k → tag ≡ tag_of n
unfolding tag_of
row_tag identity = refl
row_tag revision = refl
row_tag (third k g h) = refl
row_tag (fourth k g h) = refl
row_tag (two n c h e) = rw (lt-leb n 4 h)
row_tag (four n c h e) = rw (lt-leb n 4 h)

write_command : (n c : ℕ) → 5 ≤ n →
    command_ok n c ≡ cond (eqb c 0xC7) true (cond (eqb c 0xE7) true (cond (eqb c 0xC5) true (eqb c 0xC6)))
unfolding command_ok
write_command n c h =
    rw (ne_eqb n 1 (λ e. omega arith), ne_eqb n 2 (λ e. omega arith), ne_eqb n 3 (λ e. omega arith), lt-leb n 4 h)

row_command : {n tag c k : ℕ} → Row n tag c k → command_ok n c ≡ true
unfolding command_ok
row_command identity = refl
row_command revision = refl
row_command (third k g h) = refl
row_command (fourth k g h) = refl
row_command (two n c h (inl e)) = write_command n c h ∙ rw e
row_command (two n c h (inr e)) = write_command n c h ∙ rw e
row_command (four n c h (inl e)) = write_command n c h ∙ rw e
row_command (four n c h (inr e)) = write_command n c h ∙ rw e

-- ---- and back

-- a row of line n with this command
record Has (n command : ℕ) : Type 0 where
  count : ℕ
  row : Row n (tag_of n) command count

module _ (n : ℕ) where
  write_has : (command : ℕ) → 5 ≤ n → command_ok n command ≡ true → Has n command
  unfolding tag_of
  write_has command h e =
      let f = write_command n command h in
      split (eqb command 0xC7) (λ a. record { count = 2; row = rw (lt-leb n 4 h) (two n command h (inl (eqb-true command 0xC7 a))) })
      (λ a. split (eqb command 0xE7) (λ b. record { count = 2; row = rw (lt-leb n 4 h) (two n command h (inr (eqb-true command 0xE7 b))) })
      (λ b. split (eqb command 0xC5) (λ c. record { count = 4; row = rw (lt-leb n 4 h) (four n command h (inl (eqb-true command 0xC5 c))) })
      (λ c. record { count = 4; row = rw (lt-leb n 4 h) (four n command h (inr (eqb-true command 0xC6 (simp (a, b, c) at (sym f ∙ e))))) })))

  command_has : (command : ℕ) → 1 ≤ n → command_ok n command ≡ true → Has n command
  unfolding command_ok tag_of
  command_has command g e =
      split (eqb n 1)
      (λ a. rw (eqb-true n 1 a, eqb-true command 0xAD (simp a at e)) (record { count = 4; row = identity }))
      (λ a. split (eqb n 2)
      (λ b. rw (eqb-true n 2 b, eqb-true command 0xAE (simp (a, b) at e)) (record { count = 4; row = revision }))
      (λ b. split (eqb n 3)
      (λ c. rw (eqb-true n 3 c, eqb-true command 0x01 (simp (a, b, c) at e)) (record { count = 1; row = third 1 (omega arith) (omega arith) }))
      (λ c. split (leb n 4)
      (λ d.
      let m : n ≡ 4 = omega (arith, leb-true n 4 d, eqb-false n 1 a, eqb-false n 2 b, eqb-false n 3 c) in
      rw (m, eqb-true command 0x02 (simp (a, b, c, d) at e)) (record { count = 1; row = fourth 1 (omega arith) (omega arith) }))
      (λ d. write_has command (leb-false n 4 d) e))))

  -- each line has one
  some_has : 1 ≤ n → (c : ℕ) × Has n c
  unfolding command_ok
  some_has g =
      split (eqb n 1) (λ a. (0xAD, command_has 0xAD g (simp a)))
      (λ a. split (eqb n 2) (λ b. (0xAE, command_has 0xAE g (simp (a, b))))
      (λ b. split (eqb n 3) (λ c. (0x01, command_has 0x01 g (simp (a, b, c))))
      (λ c. split (leb n 4) (λ d. (0x02, command_has 0x02 g (simp (a, b, c, d)))) (λ d. (0xC7, command_has 0xC7 g (simp (a, b, c, d)))))))

-- ---- the first field

module _ {n tag address command count : ℕ} (g : 1 ≤ n) where
  pub field_is : {p : ℕ} → FirstField n tag address command count p → p ≡ form_place n tag address command
  unfolding form_place
  field_is (by_tag never) =
      split (eqb tag (tag_of n))
      (λ t. let h = some_has n g in absurd (never h.0 h.1.count (rw (eqb-true tag (tag_of n) t) h.1.row)))
      (λ t. rw t)
  field_is (by_address c k row never) = rw (eq-eqb tag (tag_of n) (row_tag row), ne_eqb address 0xC0 never)
  field_is (by_command c k row a never) =
      split (command_ok n command)
      (λ e. let h = command_has n command g e in absurd (never h.count (rw (row_tag row) h.row)))
      (λ e. rw (eq-eqb tag (tag_of n) (row_tag row), eq-eqb address 0xC0 a, e))
  field_is (by_count k row a never) = rw (eq-eqb tag (tag_of n) (row_tag row), eq-eqb address 0xC0 a, row_command row)

  pub field_tells : form_ok n tag address command count ≡ false → FirstField n tag address command count (form_place n tag address command)
  unfolding form_place
  field_tells e =
      split (eqb tag (tag_of n))
      (λ t.
      let q : tag ≡ tag_of n = eqb-true tag (tag_of n) t in
      let s = some_has n g in
      let row : Row n tag s.0 s.1.count = rw q s.1.row in
      split (eqb address 0xC0)
      (λ a. split (command_ok n command)
      (λ c.
      let h = command_has n command g c in
      let broken : form_ok n tag 0xC0 command count ≡ false = rw (eqb-true address 0xC0 a) at e in
      rw (t, a, c) (by_count h.count (rw q h.row) (eqb-true address 0xC0 a) (λ r. true≢false (sym (row_ok r) ∙ broken))))
      (λ c. rw (t, a, c)
      (by_command s.0 s.1.count row (eqb-true address 0xC0 a) (λ k r. true≢false (sym (row_command r) ∙ c)))))
      (λ a. rw (t, a) (by_address s.0 s.1.count row (eqb-false address 0xC0 a))))
      (λ t. rw t (by_tag (λ c k r. eqb-false tag (tag_of n) t (row_tag r))))

  -- a row that has every field leaves none that breaks the table
  row_leaves_none : {p : ℕ} → (address ≡ 0xC0) × Row n tag command count → FirstField n tag address command count p → ⊥
  row_leaves_none ok (by_tag never) = never command count ok.1
  row_leaves_none ok (by_address c k row never) = never ok.0
  row_leaves_none ok (by_command c k row a never) = never count ok.1
  row_leaves_none ok (by_count k row a never) = never ok.1

  pub field_fails : {p : ℕ} → FirstField n tag address command count p → form_ok n tag address command count ≡ false
  field_fails f =
      split (form_ok n tag address command count) (λ e. absurd (row_leaves_none (ok_row n command count tag address g e) f)) (λ e. e)
