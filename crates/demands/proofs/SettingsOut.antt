-- A setting is out of its range exactly where it is not allowed. Assumes nothing.
use mathlib.Core.Path.{◌≡◌, sym}
use mathlib.Core.Logic.{⊎_elim}
use mathlib.Core.Bool.{true, false, true≢false}
use native.Mathlib.Omega.{arith}
use Prim.Native.Nat.{ℕ, ◌*◌, ◌/◌, ◌%◌, ◌≤◌}
use lib.Dec.{eqb, leb}
use borrow.Author.Tests.{leb-true, leb-false, le-leb, eq-eqb, ne_eqb, eqb-false, not-false}
use Rattle.promise.proofs.Basics.{split}
use Rattle.promise.proofs.Members.{in_list, list_in}
use Rattle.bus.specs.Bus.{reserved, codes}
use Rattle.session.specs.declared.Settings.{Settings}
use Rattle.session.specs.Sound.{known_rule, is_address, setting_tests, allowed_of}
use Rattle.demands.specs.Exactly.{SettingOut, limit, restore, rule, address}
use Rattle.session.proofs.Tests.{all_not, fails, none}
use Rattle.demands.proofs.SettingsSay.{address_is}

unknown_rule : (r : ℕ) → known_rule r ≡ false → (r ≡ 1 → ⊥) × (r ≡ 2 → ⊥)
unfolding known_rule
unknown_rule r e = split (eqb r 1) (λ f. absurd (true≢false (rw f at e))) (λ f. (eqb-false r 1 f, eqb-false r 2 (rw f at e)))

-- an address is twice a device's seven bits
no_device : (a : ℕ) → is_address a ≡ false → (bits : ℕ) → 0x08 ≤ bits → bits ≤ 0x77 → a ≡ 2 * bits → ⊥
unfolding is_address
no_device a e bits low high twice =
    let some : leb 0x10 a ≡ true = le-leb 0x10 a (omega arith) in
    let few : leb a 0xEE ≡ true = le-leb a 0xEE (omega arith) in
    let even : eqb (a % 2) 0 ≡ true = eq-eqb (a % 2) 0 (omega arith) in
    true≢false (rw (some, few, even) at e)

not_address : (a : ℕ) → ((bits : ℕ) → 0x08 ≤ bits → bits ≤ 0x77 → a ≡ 2 * bits → ⊥) → is_address a ≡ false
not_address a f =
    split (is_address a) (λ e. let h = address_is a e in absurd (f (a / 2) (omega (arith, h)) (omega (arith, h)) (omega (arith, h)))) (λ e. e)

module _ (S : Settings) where
  pub out_refused : SettingOut S → allowed_of S ≡ false
  unfolding allowed_of setting_tests reserved known_rule
  out_refused (limit f) =
      split (leb 1 S.limit)
      (λ e. split (leb S.limit 10000) (λ g. absurd (f (leb-true _ _ e, leb-true _ _ g))) (λ g. sym (all_not (setting_tests S) 1 g)))
      (λ e. sym (all_not (setting_tests S) 0 e))
  out_refused (restore o) = sym (all_not (setting_tests S) 2 (rw (list_in o)))
  out_refused (address f) = sym (all_not (setting_tests S) 4 (not_address S.address f))
  out_refused (rule f g) = sym (all_not (setting_tests S) 3 (rw (ne_eqb S.rule 1 f) (ne_eqb S.rule 2 g)))

  pub refused_out : allowed_of S ≡ false → SettingOut S
  unfolding allowed_of setting_tests reserved
  refused_out e =
      ⊎_elim (λ f. limit (λ p. omega (arith, leb-false 1 S.limit f)))
      (λ r. ⊎_elim (λ f. limit (λ p. omega (arith, leb-false S.limit 10000 f)))
      (λ q. ⊎_elim (λ f. restore (in_list S.restore codes (not-false (reserved S.restore) f)))
      (λ t. ⊎_elim (λ f. let u = unknown_rule S.rule f in rule u.0 u.1)
      (λ u. ⊎_elim (λ f. address (no_device S.address f)) none (fails _ _ u))
      (fails _ _ t))
      (fails _ _ q))
      (fails _ _ r))
      (fails _ _ e)
