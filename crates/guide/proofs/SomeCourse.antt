-- Any replies have a course: step by step, and each word that is judged passes or does not. Assumes nothing.
use mathlib.Core.Path.{◌≡◌, refl, sym, ◌∙◌}
use mathlib.Core.Logic.{◌⊎◌, inl, inr}
use mathlib.Core.Bool.{true≢false}
use mathlib.Core.List.{List, [], ◌∷◌}
use Prim.Native.Nat.{ℕ, suc, ◌-◌, ◌%◌, ◌≤◌}
use native.Mathlib.Omega.{arith}
use lib.Dec.{eqb}
use lib.ListN.{length}
use borrow.Author.Tests.{eqb-true, eqb-false}
use Rattle.std.specs.Prelude.{Result, Ok, Err}
use Rattle.promise.proofs.Basics.{split}
use Rattle.summary.specs.declared.Summary.{Summary}
use Rattle.bus.specs.declared.Request.{Request}
use Rattle.bus.specs.InForm.{register}
use Rattle.guide.specs.declared.Reason.{Reason}
use Rattle.guide.specs.declared.Words.{Words}
use Rattle.guide.specs.Terms.{Terms}
use Rattle.guide.specs.Judged.{fit_of, banks_right}
use Rattle.guide.specs.Plan.{Reply}
use Rattle.guide.specs.Requests.{read_data}
use Rattle.guide.specs.Guide.{target_of, write_lines_of}
use Rattle.guide.specs.Matched.{Exchange, Heard, none, Fits}
use Rattle.guide.specs.Course.{Content, content_of, heard4, Said, Polling, Now, Fitting, Programmed, Reported, unfit, PROGRAM, BANKS, MISMATCH, DONE}
use Rattle.guide.specs.Course.{opened, polled, shown, Run, steps12, steps34, step5, step6, Out, Course, waits, refused, judged}
use Rattle.guide.proofs.Banks.{are_right, right_are}
use Rattle.guide.proofs.JudgedExactly.{judged_exactly}
use Rattle.guide.proofs.FitExactly.{fit_first}
use Rattle.guide.proofs.Through.{heard_both}
use Rattle.guide.proofs.StepByStep.{Last, silent, told, read_any, write_any, Stuck, stuck, behind, before, then, on, opening_any, lines_any, polls_any, verify_any}

module _ (T : Terms) (file : Summary) (text : List ℕ) (some : 1 ≤ T.limit) (few : file.configs ≤ 8) (rs : List Reply) where
  abbrev c : Content
  c = content_of T.address file text

  abbrev Some : Type 0
  Some = (x : Now) × (qs : List Request) × Course T c rs x qs

  abbrev said : ℕ → Words → List ℕ → ℕ → ℕ → Said
  said captured read busy last banks = record { captured = captured; read = read; busy = busy; last = last; banks = banks }

  -- stuck in a run
  ends : {ys : List Exchange} → Run T c ys → Stuck ys rs → Some
  ends {ys} run s = by s.left (record { all = ys; run = run; made = s.made; next = s.next; heard = s.heard }) s.how
    where
      by : (left : List Reply) → Out T c rs s.request left → Last s.request left → Some
      by _ o silent = (_, _, waits _ o)
      by _ o (told r later m N f) = (_, _, refused _ r later o m N f)

  -- what is heard, or stuck, in the exchanges behind some is so in all
  record Goes (part : List Exchange → List Exchange) (r : List Reply) : Type 0 where
    heard : (xs : List Exchange) (left : List Reply) → Heard xs r left → Heard (part xs) rs left
    stops : (xs : List Exchange) → Stuck xs r → Stuck (part xs) rs

  step6_any : (w : Said) (r : List Reply) → Reported T c w → Goes (shown T c w) r → Some
  step6_any w r ok g =
      verify_any T c.configs r (λ k. ends (step6 w ok) (g.stops _ k))
      (λ sofar x more crc left e f t. (_, _, judged _ left 31 (length sofar) (g.heard _ left t) (MISMATCH w ok sofar x more crc e f)))
      (λ left t. (_, _, judged _ left 0 0 (g.heard _ left t) (DONE w ok)))

  step5_any : (w : Said) (r : List Reply) → ((banks : ℕ) → Programmed T c (said w.captured w.read w.busy w.last banks)) → Goes (polled T c w) r → Some
  step5_any w r ok g =
      write_any T.address 0xC7 (0x7F ∷ 0x00 ∷ []) r (λ h. ends (step5 _ (ok 0)) (g.stops _ (stuck h))) λ r1 c1.
      read_any (read_data T.address) (register T.address) r1 (λ h. ends (step5 _ (ok 0)) (g.stops _ (on c1 (stuck h)))) λ banks r2 c2.
      split (banks_right file.configs banks)
      (λ e. step6_any _ r2 (record { programmed = ok banks; right = right_are file.configs banks few e })
      (record { heard = λ xs left h. g.heard _ left (then c1 (then c2 h)); stops = λ xs k. g.stops _ (on c1 (on c2 k)) }))
      (λ e. (_, _, judged _ r2 30 0 (g.heard _ r2 (then c1 c2)) (BANKS _ (ok banks) (λ x. true≢false (sym (are_right file.configs banks x) ∙ e)))))

  -- the poll that ended
  polled_any : (captured : ℕ) (read : Words) (busy : List ℕ) (w : ℕ) (r : List Reply) → Fits c.target T.kept read → Polling T.limit busy
      → (w % 2 ≡ 1) ⊎ (suc (length busy) ≡ T.limit) → Goes (polled T c (said captured read busy w 0)) r → Some
  polled_any captured read busy w r f p ended g =
      let fitting : (banks : ℕ) → Fitting T c (said captured read busy w banks) = λ banks. record { fits = f; polling = p } in
      split (eqb (w % 64) 1)
      (λ e. step5_any (said captured read busy w 0) r (λ banks. record { fitting = fitting banks; passed = eqb-true (w % 64) 1 e }) g)
      (λ e. (_, _, judged _ r 29 0 (g.heard [] r (none r)) (PROGRAM _ (fitting 0) ended (eqb-false (w % 64) 1 e))))

  -- as many polls as the limit allows
  limit : {busy : List ℕ} → Polling (suc (T.limit - 1)) busy → Polling T.limit busy
  limit p = let e : suc (T.limit - 1) ≡ T.limit = omega arith in rw e at p

  used : (busy : List ℕ) (w : ℕ) → (w % 2 ≡ 1) ⊎ (length busy ≡ T.limit - 1) → (w % 2 ≡ 1) ⊎ (suc (length busy) ≡ T.limit)
  used busy w (inl e) = inl e
  used busy w (inr e) = inr (omega arith)

  fitted : (captured : ℕ) (read : Words) (r1 : List Reply) → Heard (opened T c (said captured read [] 0 0)) rs r1 → Fits c.target T.kept read → Some
  unfolding heard4
  fitted captured read r1 h1 f =
      lines_any T.address (write_lines_of text) r1 (λ k. ends (run [] none_busy) (behind h1 (before _ k))) λ r2 h2.
      write_any T.address 0xC7 (0x7E ∷ 0x00 ∷ []) r2 (λ h. ends (run [] none_busy) (behind h1 (behind h2 (stuck h)))) λ r3 c3.
      polls_any T.address (T.limit - 1) r3 (λ busy p k. ends (run busy (limit p)) (behind h1 (behind h2 (on c3 k))))
      (λ busy w mid r4 p e t d. polled_any captured read busy w r4 f (limit p) (used busy w e)
      (record {
        heard = λ xs left h. heard_both h1 (heard_both h2 (then c3 (heard_both t (then d h))));
        stops = λ xs k. behind h1 (behind h2 (on c3 (behind t (on d k))));
      }))
    where
      none_busy : Polling T.limit []
      none_busy = record { clear = λ i h. absurd (let y : ⊥ = omega arith in y); within = omega arith }

      run : (busy : List ℕ) → Polling T.limit busy → Run T c (polled T c (said captured read busy 0 0) [])
      run busy p = steps34 (said captured read busy 0 0) (record { fits = f; polling = p })

  pub some_course : Some
  some_course =
      opening_any T.address T.wanted rs (λ captured read s. ends (steps12 (said captured read [] 0 0)) s)
      (λ captured read r1 h1. by captured read r1 h1 (fit_of (target_of file) T.kept read) refl)
    where
      by : (captured : ℕ) (read : Words) (r1 : List Reply) → Heard (opened T c (said captured read [] 0 0)) rs r1
          → (x : Result (Unit {0}) Reason) → fit_of (target_of file) T.kept read ≡ x → Some
      by captured read r1 h1 (Ok tt) e = fitted captured read r1 h1 ((judged_exactly (target_of file) T.kept read).matches e)
      by captured read r1 h1 (Err r) e =
          (_, _, judged _ r1 _ 0 h1 (unfit (said captured read [] 0 0) _ 0 (fit_first (target_of file) T.kept read r e)))
