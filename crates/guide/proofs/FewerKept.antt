-- Where fewer places are kept free, a session goes the same way, unless it ends with 28: by the course alone, so that no tree is walked.
-- Assumes nothing.
use mathlib.Core.Path.{◌≡◌, refl, ap, subst}
use mathlib.Core.Logic.{◌⊎◌, inl, inr}
use mathlib.Core.List.{List, [], ◌∷◌, ◌++◌}
use Prim.Native.Nat.{ℕ, ◌+◌, ◌≤◌, ◌<◌}
use native.Mathlib.Omega.{arith}
use lib.ListN.{length}
use Rattle.promise.specs.First.{First}
use Rattle.bus.specs.declared.Request.{Request}
use Rattle.guide.specs.declared.Target.{Target}
use Rattle.guide.specs.declared.Words.{Words}
use Rattle.guide.specs.Terms.{Terms}
use Rattle.guide.specs.Plan.{Reply}
use Rattle.guide.specs.Matched.{Exchange, asked_in, Fits}
use Rattle.guide.specs.Verdicts.{FitTable, PLACES}
use Rattle.guide.specs.Course.{Config, Content, Said, Now, over, heard_config, heard6, opened, shown, Fitting, Programmed, Reported, Judged, unfit, PROGRAM, BANKS, MISMATCH, DONE, Run, steps12, steps34, step5, step6, Out, Course, waits, refused, judged}
use Rattle.guide.proofs.FitRows.{carried}

-- ---- 23 to 28

module _ (target : Target) {kept less : ℕ} (fewer : less ≤ kept) (read : Words) where
  fits_too : Fits target kept read → Fits target less read
  fits_too f = record { counted = f.counted; same = f.same; young = f.young; kind = f.kind; places = omega (arith, f.places) }

  applies_too : {m N : ℕ} → FitTable target less read m N → FitTable target kept read m N
  applies_too {m} {N} row = by (carried {u = target} refl refl {less = kept} row)
    where
      by : ((m < 28) × FitTable target kept read m N) ⊎ ((m ≡ 28) × (N ≡ 0) × (read.counter < target.configs + less)) → FitTable target kept read m N
      by (inl (h, same)) = same
      by (inr (e, z, h)) = rw (e, z) (PLACES (omega arith))

  still_first : {m N : ℕ} → First (FitTable target kept read) m N → First (FitTable target less read) m N ⊎ ((m ≡ 28) × (N ≡ 0))
  still_first {m} {N} f = by (carried {u = target} refl refl {less = less} f.applies)
    where
      by : ((m < 28) × FitTable target less read m N) ⊎ ((m ≡ 28) × (N ≡ 0) × (read.counter < target.configs + kept))
          → First (FitTable target less read) m N ⊎ ((m ≡ 28) × (N ≡ 0))
      by (inl (h, row)) = inl (record { applies = row; none = λ i t g x. f.none i t g (applies_too x) })
      by (inr (e, z, h)) = inr (e, z)

-- ---- the course

module _ (T : Terms) (less : ℕ) (fewer : less ≤ T.kept) (c : Content) where
  abbrev U : Terms
  U = record { wanted = T.wanted; limit = T.limit; restore = T.restore; kept = less; address = T.address }

  same6 : (xs : List Config) → heard6 U xs ≡ heard6 T xs
  unfolding heard6
  same6 [] = refl
  same6 (x ∷ xs) = ap (λ (l : List Exchange). heard_config T x x.crc ++ l) (same6 xs)

  fitting : {w : Said} → Fitting T c w → Fitting U c w
  fitting {w} f = record { fits = fits_too c.target fewer w.read f.fits; polling = f.polling }

  programmed : {w : Said} → Programmed T c w → Programmed U c w
  programmed p = record { fitting = fitting p.fitting; passed = p.passed }

  reported : {w : Said} → Reported T c w → Reported U c w
  reported r = record { programmed = programmed r.programmed; right = r.right }

  run : {xs : List Exchange} → Run T c xs → Run U c xs
  run (steps12 w) = steps12 w
  run (steps34 w f) = steps34 w (fitting f)
  run (step5 w p) = step5 w (programmed p)
  run (step6 w r) = subst (λ (l : List Exchange). Run U c (shown U c w l)) (same6 c.configs) (step6 w (reported r))

  abbrev out : {rs left : List Reply} {q : Request} → Out T c rs q left → Out U c rs q left
  out o = record { all = o.all; run = run o.run; made = o.made; next = o.next; heard = o.heard }

  judged_with_fewer : {xs : List Exchange} {m N : ℕ} → Judged T c xs m N → Judged U c xs m N ⊎ ((m ≡ 28) × (N ≡ 0))
  judged_with_fewer (unfit w m N f) = by (still_first c.target fewer w.read f)
    where
      by : First (FitTable c.target less w.read) m N ⊎ ((m ≡ 28) × (N ≡ 0)) → Judged U c (opened U c w) m N ⊎ ((m ≡ 28) × (N ≡ 0))
      by (inl g) = inl (unfit w m N g)
      by (inr e) = inr e
  judged_with_fewer (PROGRAM w f e g) = inl (PROGRAM w (fitting f) e g)
  judged_with_fewer (BANKS w p f) = inl (BANKS w (programmed p) f)
  judged_with_fewer (MISMATCH w r before x behind crc e f) =
      inl (subst (λ (l : List Exchange). Judged U c (shown U c w (l ++ heard_config U x crc)) 31 (length before)) (same6 before)
      (MISMATCH w (reported r) before x behind crc e f))
  judged_with_fewer (DONE w r) = inl (subst (λ (l : List Exchange). Judged U c (shown U c w l) 0 0) (same6 c.configs) (DONE w (reported r)))

  pub course_with_fewer : {rs : List Reply} {x : Now} {qs : List Request} → Course T c rs x qs → Course U c rs x qs ⊎ (x ≡ over 28 0)
  course_with_fewer (waits q o) = inl (waits q (out o))
  course_with_fewer (refused q r later o m N f) = inl (refused q r later (out o) m N f)
  course_with_fewer {rs} (judged xs left m N h j) = by (judged_with_fewer j)
    where
      by : Judged U c xs m N ⊎ ((m ≡ 28) × (N ≡ 0)) → Course U c rs (over m N) (asked_in xs) ⊎ (over m N ≡ over 28 0)
      by (inl k) = inl (judged xs left m N h k)
      by (inr (e, f)) = inr (rw (e, f))
