-- The settings that are allowed, by their values; and a refused start puts nothing out, whatever follows. Assumes nothing.
use mathlib.Core.Path.{◌≡◌, refl, sym, ◌∙◌}
use mathlib.Core.Bool.{true, false, true≢false}
use mathlib.Core.List.{List, [], ◌∷◌}
use Prim.Native.Nat.{ℕ, ◌%◌, ◌≤◌}
use native.Mathlib.Omega.{arith}
use lib.Dec.{eqb, leb}
use borrow.Author.Tests.{leb-true, not-true, le-leb, eq-eqb, eqb-true}
use Rattle.promise.proofs.Basics.{split, and_true}
use Rattle.bus.specs.Bus.{no_request, reserved, codes}
use Rattle.guide.specs.declared.Verdict.{Verdict}
use Rattle.guide.specs.Plan.{Reply}
use Rattle.session.specs.declared.Settings.{Settings}
use Rattle.session.specs.Moves.{over_of}
use Rattle.session.specs.declared.Session.{Session}
use Rattle.session.specs.Sound.{all, known_rule, is_address, setting_tests, allowed_of, state_tests, sound_of}
use Rattle.session.proofs.Tests.{all_at}
use Rattle.session.specs.Begin.{fresh_of, refused_of}
use Rattle.session.specs.Reply.{stage_of, reply_of}
use Rattle.demands.specs.Runs.{put_out, sent}
use Rattle.demands.specs.Headline.{Allowed, Keeps, rule1, rule2}
use Rattle.guide.specs.Terms.{Terms}
use Rattle.session.specs.Terms.{kept_of, keeping}
use Rattle.promise.specs.Lists.{is_in}
use Rattle.promise.proofs.Members.{in_list, list_in}

-- ---- a rule, and the places that it keeps free

pub kept_is : {r kept : ℕ} → Keeps r kept → kept_of r ≡ kept
unfolding kept_of
kept_is rule1 = refl
kept_is rule2 = refl

pub kept_few : {r kept : ℕ} → Keeps r kept → kept ≤ 2
kept_few rule1 = omega arith
kept_few rule2 = omega arith

keeps_known : {r kept : ℕ} → Keeps r kept → known_rule r ≡ true
unfolding known_rule
keeps_known rule1 = refl
keeps_known rule2 = refl

known_keeps : (r : ℕ) → known_rule r ≡ true → Keeps r (kept_of r)
unfolding known_rule kept_of
known_keeps r e =
    split (eqb r 1) (λ f. rw (eqb-true r 1 f) rule1) (λ f. let two : eqb r 2 ≡ true = rw f at e in rw (eqb-true r 2 two) rule2)

-- ---- an address

pub address_is : (a : ℕ) → is_address a ≡ true → (0x10 ≤ a) × (a ≤ 0xEE) × (a % 2 ≡ 0)
unfolding is_address
address_is a e =
    let p = and_true (leb 0x10 a) _ e in
    let q = and_true (leb a 0xEE) _ p.1 in
    (leb-true 0x10 a p.0, leb-true a 0xEE q.0, eqb-true (a % 2) 0 q.1)

is_address_lem : (a : ℕ) → 0x10 ≤ a → a ≤ 0xEE → a % 2 ≡ 0 → is_address a ≡ true
unfolding is_address
is_address_lem a low high even = rw (le-leb 0x10 a low, le-leb a 0xEE high, eq-eqb (a % 2) 0 even)

-- ---- settings that are allowed

module _ (S : Settings) (e : allowed_of S ≡ true) where
  pub allowed_is : (kept : ℕ) → Allowed (keeping kept S)
  unfolding allowed_of setting_tests reserved
  allowed_is kept =
      let a = address_is S.address (all_at (setting_tests S) 4 e) in
      record {
        some = leb-true 1 S.limit (all_at (setting_tests S) 0 e);
        few = leb-true S.limit 10000 (all_at (setting_tests S) 1 e);
        code = λ m. true≢false (sym (list_in m) ∙ not-true _ (all_at (setting_tests S) 2 e));
        even = a.2;
        low = a.0;
        high = a.1;
      }

  pub rule_is : Keeps S.rule (kept_of S.rule)
  unfolding allowed_of setting_tests
  rule_is = known_keeps S.rule (all_at (setting_tests S) 3 e)

-- of a state that 15 lets pass
pub held_rule : (s : Session) → sound_of s ≡ true → Keeps s.settings.rule (kept_of s.settings.rule)
unfolding sound_of state_tests
held_rule s e = rule_is s.settings (all_at (state_tests s) 0 e)

pub not_reserved : (T : Terms) → Allowed T → reserved T.restore ≡ false
unfolding reserved
not_reserved T a = split (is_in T.restore codes) (λ e. absurd (a.code (in_list T.restore codes e))) (λ e. e)

pub is_allowed : (S : Settings) {kept : ℕ} → Keeps S.rule kept → Allowed (keeping kept S) → allowed_of S ≡ true
unfolding allowed_of setting_tests all
is_allowed S {kept} k a =
    rw (le-leb 1 S.limit a.some, le-leb S.limit 10000 a.few, not_reserved (keeping kept S) a, keeps_known k, is_address_lem S.address a.low a.high a.even)

pub refused_sends : (S : Settings) (text : List ℕ) (v : Verdict) (rs : List Reply) → sent text (refused_of S v) rs ≡ []
unfolding refused_of fresh_of over_of no_request put_out sent reply_of stage_of
refused_sends S text v [] = refl
refused_sends S text v (r ∷ rs) = refused_sends S text v rs
