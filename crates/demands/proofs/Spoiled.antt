-- The tests of a summary and of a held state fail exactly where one of the document's conditions holds. Assumes nothing.
use Prim.Native.Nat.{ℕ, zero, suc, ◌≤◌, ◌<◌}
use mathlib.Core.Path.{◌≡◌, sym}
use mathlib.Core.Logic.{⊎_elim}
use mathlib.Core.Bool.{false}
use mathlib.Core.List.{List, [], ◌∷◌}
use native.Mathlib.Omega.{arith}
use lib.Dec.{ltb, leb}
use lib.ListN.{get_or, take}
use borrow.Author.Tests.{ltb-true, leb-true, leb-false, ltb-false, eqb-false, lt-leb, le-ltb, ne_eqb}
use Rattle.counts.specs.Counts.{config_id, line_count}
use Rattle.counts.specs.declared.ConfigId.{ConfigId}
use Rattle.promise.proofs.Basics.{split}
use Rattle.session.specs.declared.Session.{Session}
use Rattle.summary.specs.declared.Summary.{Summary}
use Rattle.session.specs.Sound.{ids_sound, file_tests, file_sound, most_sent, held_tests, held_sound, state_tests, sound_of}
use Rattle.demands.specs.Exactly.{SummaryOut, configs, lines, identifier, Spoiled, setting, summary, line, config, polls, count}
use Rattle.session.proofs.Tests.{all_not, fails, none}
use Rattle.demands.proofs.SettingsOut.{out_refused, refused_out}

not_under : {a b : ℕ} → (a < b → ⊥) → b ≤ a
not_under {a} {b} f = split (ltb a b) (λ e. absurd (f (ltb-true a b e))) (ltb-false a b)

-- ---- identifiers

ids_above : (ids : List ConfigId) (k N : ℕ) → N < k → 15 < (get_or ids N (config_id 0)).0 → ids_sound (take k ids) ≡ false
unfolding ids_sound
ids_above [] k N h g = absurd (let y : ⊥ = omega arith in y)
ids_above (i ∷ is) zero N h g = absurd (let y : ⊥ = omega arith in y)
ids_above (i ∷ is) (suc k) zero h g = rw (lt-leb _ _ g)
ids_above (i ∷ is) (suc k) (suc N) h g =
    split (leb i.0 15) (λ e. rw e (ids_above is k N (omega arith) g)) (λ e. rw e)

above_ids : (ids : List ConfigId) (k : ℕ) → ids_sound (take k ids) ≡ false → (N : ℕ) × (N < k) × (15 < (get_or ids N (config_id 0)).0)
unfolding ids_sound
above_ids ids zero e = let z : ◌≡◌ {A = ℕ} 0 1 = cc in absurd (let y : ⊥ = omega arith in y)
above_ids [] (suc k) e = let z : ◌≡◌ {A = ℕ} 0 1 = cc in absurd (let y : ⊥ = omega arith in y)
above_ids (i ∷ is) (suc k) e =
    split (leb i.0 15)
    (λ f. let r = above_ids is k (simp f at e) in (suc r.0, omega (arith, r.1), r.2))
    (λ f. (0, omega arith, leb-false _ _ f))

-- ---- a summary

module _ (f : Summary) where
  pub out_unsound : SummaryOut f → file_sound f ≡ false
  unfolding file_sound file_tests
  out_unsound (configs o) =
      split (leb 1 f.configs)
      (λ e. split (leb f.configs 8) (λ g. absurd (o (leb-true _ _ e, leb-true _ _ g))) (λ g. sym (all_not (file_tests f) 1 g)))
      (λ e. sym (all_not (file_tests f) 0 e))
  out_unsound (lines o) = sym (all_not (file_tests f) 2 (ne_eqb _ _ o))
  out_unsound (identifier N h g) = sym (all_not (file_tests f) 3 (ids_above _ _ N h g))

  pub unsound_out : file_sound f ≡ false → SummaryOut f
  unfolding file_sound file_tests
  unsound_out e =
      ⊎_elim (λ g. configs (λ p. omega (arith, leb-false 1 f.configs g)))
      (λ r. ⊎_elim (λ g. configs (λ p. omega (arith, leb-false f.configs 8 g)))
      (λ q. ⊎_elim (λ g. lines (eqb-false f.lines (line_count f.kind f.configs) g))
      (λ t. ⊎_elim (λ g. let a = above_ids f.ids f.configs g in identifier a.0 a.1 a.2) none (fails _ _ t))
      (fails _ _ q))
      (fails _ _ r))
      (fails _ _ e)

-- ---- the whole state

module _ (s : Session) where
  held_refused : held_sound s ≡ false → sound_of s ≡ false
  unfolding sound_of state_tests
  held_refused e = sym (all_not (state_tests s) 2 e)

  pub spoiled_refused : Spoiled s → sound_of s ≡ false
  unfolding sound_of state_tests held_sound held_tests most_sent
  spoiled_refused (setting o) = sym (all_not (state_tests s) 0 (out_refused s.settings o))
  spoiled_refused (summary o) = sym (all_not (state_tests s) 1 (out_unsound s.file o))
  spoiled_refused (line f) =
      split (leb 5 s.position.line.0)
      (λ e. split (leb s.position.line.0 s.file.lines) (λ g. absurd (f (leb-true _ _ e, leb-true _ _ g)))
      (λ g. held_refused (sym (all_not (held_tests s) 1 g))))
      (λ e. held_refused (sym (all_not (held_tests s) 0 e)))
  spoiled_refused (config f) =
      held_refused (sym (all_not (held_tests s) 2 (le-ltb s.position.config.0 s.file.configs (not_under f))))
  spoiled_refused (polls f) =
      held_refused (sym (all_not (held_tests s) 3 (le-ltb s.position.polls s.settings.limit (not_under f))))
  spoiled_refused (count h) = held_refused (sym (all_not (held_tests s) 4 (lt-leb s.sent (most_sent s) h)))

  held_spoiled : held_sound s ≡ false → Spoiled s
  unfolding held_sound held_tests most_sent
  held_spoiled e =
      ⊎_elim (λ f. line (λ p. omega (arith, leb-false 5 s.position.line.0 f)))
      (λ r. ⊎_elim (λ f. line (λ p. omega (arith, leb-false s.position.line.0 s.file.lines f)))
      (λ q. ⊎_elim (λ f. config (λ p. omega (arith, ltb-false s.position.config.0 s.file.configs f)))
      (λ t. ⊎_elim (λ f. polls (λ p. omega (arith, ltb-false s.position.polls s.settings.limit f)))
      (λ u. ⊎_elim (λ f. count (leb-false s.sent (most_sent s) f)) none (fails _ _ u))
      (fails _ _ t))
      (fails _ _ q))
      (fails _ _ r))
      (fails _ _ e)

  pub refused_spoiled : sound_of s ≡ false → Spoiled s
  unfolding sound_of state_tests
  refused_spoiled e =
      ⊎_elim (λ f. setting (refused_out s.settings f))
      (λ r. ⊎_elim (λ f. summary (unsound_out s.file f)) (λ q. ⊎_elim held_spoiled none (fails _ _ q)) (fails _ _ r))
      (fails _ _ e)
