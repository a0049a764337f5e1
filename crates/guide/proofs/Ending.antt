-- Where a word is judged: the poll that ended leads on or to 29, wrong banks to 30, the first CRC that differs to 31 with its N. Assumes
-- nothing.
use mathlib.Core.Path.{◌≡◌, refl, ap, ◌∙◌}
use mathlib.Core.Logic.{◌⊎◌, inl, inr}
use mathlib.Core.Bool.{false, cond}
use mathlib.Core.List.{List, [], ◌∷◌, ◌++◌}
use Prim.Native.Nat.{ℕ, zero, suc, ◌+◌, ◌%◌}
use native.Mathlib.Omega.{arith}
use lib.Dec.{eqb}
use lib.ListN.{length}
use borrow.Author.Tests.{eq-eqb, ne_eqb, eqb-true, eqb-false}
use Rattle.counts.specs.Counts.{config_number}
use Rattle.promise.proofs.Basics.{split}
use Rattle.summary.specs.declared.Summary.{Summary}
use Rattle.guide.specs.Requests.{point_to, read_data}
use Rattle.guide.specs.declared.Verdict.TheVariants.{Mismatch, Halted}
use Rattle.guide.specs.declared.Reason.TheVariants.{Program, Banks}
use Rattle.guide.specs.Judged.{polled_of, banks_right}
use Rattle.guide.specs.Plan.{Plan, done}
use Rattle.guide.specs.Guide.{polled, polls, step5, id_in, crc_in, verify}
use Rattle.guide.specs.Matched.{Exchange, wrote, got}
use Rattle.guide.specs.Course.{Config, heard_config, heard6, configs_in}
use Rattle.guide.proofs.Through.{Leads, arrived, on}
use Rattle.guide.proofs.Statuses.{busy_is, passed_is, failed_is}
use Rattle.guide.specs.Terms.{Terms}

module _ (address : ℕ) (rest : Plan) where
  -- a poll that passes
  pub poll_passes : {p : Plan} {ys : List Exchange} (n w : ℕ) → w % 64 ≡ 1 → Leads rest ys p → Leads (polls address (suc n) rest) (got (read_data address) w ∷ ys) p
  unfolding polls polled
  poll_passes {p} {ys} n w e k = let l : Leads (polled (polled_of w) (polls address n rest) rest) ys p = rw (passed_is w e) k in on _ l

  -- a poll that ended and does not
  pub poll_fails : (n w : ℕ) → (w % 2 ≡ 1) ⊎ (n ≡ 0) → (w % 64 ≡ 1 → ⊥) → Leads (polls address (suc n) rest) (got (read_data address) w ∷ []) (done (Halted Program))
  unfolding polls polled
  poll_fails n w ended f = on _ l
    where
      used : w % 2 ≡ 0 → (w % 2 ≡ 1) ⊎ (n ≡ 0) → n ≡ 0
      used e (inl g) = absurd (let y : ⊥ = omega arith in y)
      used e (inr g) = g

      l : Leads (polled (polled_of w) (polls address n rest) rest) [] (done (Halted Program))
      l =
          split (eqb (w % 2) 0)
          (λ e. let g = eqb-true (w % 2) 0 e in rw (busy_is w g, used g ended) arrived)
          (λ e. rw (failed_is w (eqb-false (w % 2) 0 e) f) arrived)

pub banks_fail : (address : ℕ) (rest : Plan) (n banks : ℕ) → banks_right n banks ≡ false
    → Leads (step5 address n rest) (wrote (point_to address 0x7F 0x00) ∷ got (read_data address) banks ∷ []) (done (Halted Banks))
unfolding step5
banks_fail address rest n banks e = let l : Leads (cond (banks_right n banks) rest (done (Halted Banks))) [] (done (Halted Banks)) = rw e arrived in on _ (on _ l)

module _ (T : Terms) (file : Summary) where
  -- the first whose CRC differs
  pub verify_fails : (left N : ℕ) (before : List Config) (x : Config) (behind : List Config) (crc : ℕ) → configs_in file left N ≡ before ++ (x ∷ behind)
      → (crc ≡ x.crc → ⊥) → Leads (verify T file left N) (heard6 T before ++ heard_config T x crc) (done (Mismatch (config_number (N + length before))))
  unfolding verify heard6 configs_in
  verify_fails zero N [] x behind crc e f = let z : ◌≡◌ {A = ℕ} 0 1 = cc in absurd (let y : ⊥ = omega arith in y)
  verify_fails zero N (b ∷ before) x behind crc e f = let z : ◌≡◌ {A = ℕ} 0 1 = cc in absurd (let y : ⊥ = omega arith in y)
  verify_fails (suc left) N [] x behind crc e f =
      let here : record { id = id_in file N; crc = crc_in file N } ≡ x = cc in
      let n : N + 0 ≡ N = omega arith in
      let g : crc ≡ crc_in file N → ⊥ = λ h. f (h ∙ ap (λ (c : Config). c.crc) here) in
      let l : Leads (cond (eqb crc (crc_in file N)) (verify T file left (N + 1)) (done (Mismatch (config_number N)))) [] (done (Mismatch (config_number N)))
      = rw (ne_eqb crc (crc_in file N) g) arrived in
      rw (n, ← here) (on _ (on _ (on _ l)))
  verify_fails (suc left) N (b ∷ before) x behind crc e f =
      let here : record { id = id_in file N; crc = crc_in file N } ≡ b = cc in
      let later : configs_in file left (N + 1) ≡ before ++ (x ∷ behind) = cc in
      let n : N + suc (length before) ≡ N + 1 + length before = omega arith in
      let end : Plan = done (Mismatch (config_number (N + 1 + length before))) in
      let l : Leads (cond (eqb (crc_in file N) (crc_in file N)) (verify T file left (N + 1)) (done (Mismatch (config_number N)))) (heard6 T before ++ heard_config T x crc) end
      = rw (eq-eqb (crc_in file N) (crc_in file N) refl) (verify_fails left (N + 1) before x behind crc later f) in
      rw (n, ← here) (on _ (on _ (on _ l)))
