-- 28 alone: what a session that ends with it has read passes 23 to 27, and shows too few places. Assumes nothing.
use mathlib.Core.Path.{◌≡◌, refl}
use mathlib.Core.Logic.{◌⊎◌, inl, inr, ⊎_elim}
use mathlib.Core.List.{List}
use Prim.Native.Nat.{ℕ, ◌+◌, ◌≤◌, ◌<◌}
use native.Mathlib.Omega.{arith}
use Rattle.std.specs.Prelude.{Result, Ok, Err}
use Rattle.promise.specs.First.{First}
use Rattle.bus.specs.declared.Request.{Request}
use Rattle.guide.specs.declared.Reason.{Reason}
use Rattle.guide.specs.declared.Target.{Target}
use Rattle.guide.specs.declared.Words.{Words}
use Rattle.guide.specs.Terms.{Terms}
use Rattle.guide.specs.Judged.{fit_of}
use Rattle.guide.specs.Plan.{Reply}
use Rattle.guide.specs.Matched.{Exchange, Heard, Fits}
use Rattle.guide.specs.Verdicts.{FitTable, PLACES}
use Rattle.guide.specs.Course.{Content, Said, Now, over, opened, Judged, unfit, PROGRAM, BANKS, MISMATCH, DONE, Course, waits, refused, judged}
use Rattle.guide.proofs.JudgedExactly.{judged_exactly}
use Rattle.guide.proofs.FitExactly.{fit_first, fit_none}
use Rattle.guide.proofs.FitRows.{carried}
use Rattle.guide.proofs.ReplyExactly.{reply_turns}

module _ (target : Target) (kept : ℕ) (read : Words) where
  -- a file for the same device that asks for no place: to it no row but those of 23 to 27 can apply
  abbrev pub asks_none : Target
  asks_none = record { kind = target.kind; identity = target.identity; configs = 0 }

  -- a row of the file's applies to it too, or it is that of 28
  lower : {m N : ℕ} → FitTable target kept read m N → FitTable asks_none 0 read m N ⊎ ((28 ≤ m) × (read.counter < target.configs + kept))
  lower row = ⊎_elim (λ x. inl x.1) (λ x. inr (omega (arith, x.0), x.2)) (carried {u = asks_none} refl refl row)

  raise : {m N : ℕ} → FitTable asks_none 0 read m N → (m < 28) × FitTable target kept read m N
  raise row = ⊎_elim (λ x. x) (λ x. absurd (let y : ⊥ = omega (arith, x.2) in y)) (carried {u = target} refl refl row)

  pub short_passes : {N : ℕ} → First (FitTable target kept read) 28 N → Fits asks_none 0 read × (read.counter < target.configs + kept)
  short_passes {N} f = (by (fit_of asks_none 0 read) refl, few (lower f.applies))
    where
      by : (x : Result (Unit {0}) Reason) → fit_of asks_none 0 read ≡ x → Fits asks_none 0 read
      by (Ok tt) e = (judged_exactly asks_none 0 read).matches e
      by (Err r) e = let x = raise (fit_first asks_none 0 read r e).applies in absurd (f.none _ _ x.0 x.1)

      few : FitTable asks_none 0 read 28 N ⊎ ((28 ≤ 28) × (read.counter < target.configs + kept)) → read.counter < target.configs + kept
      few (inl row) = absurd (let y : ⊥ = omega (arith, (raise row).0) in y)
      few (inr x) = x.1

  pub passes_short : Fits asks_none 0 read → read.counter < target.configs + kept → First (FitTable target kept read) 28 0
  passes_short f few =
      let passes = (judged_exactly asks_none 0 read).passes f in
      record {
        applies = PLACES few;
        none = λ i t h row. ⊎_elim (fit_none asks_none 0 read passes i t) (λ x. omega (arith, x.0)) (lower row);
      }

-- ---- of a course that ends with 28

pub record Ends28 (T : Terms) (c : Content) (rs : List Reply) : Type 0 where
  pub said : Said
  pub left : List Reply
  pub came : Heard (opened T c said) rs left
  pub first : First (FitTable c.target T.kept said.read) 28 0

module _ {T : Terms} {c : Content} {rs : List Reply} where
  judged_28 : {xs : List Exchange} {m N : ℕ} (left : List Reply) → Heard xs rs left → Judged T c xs m N → m ≡ 28 → N ≡ 0 → Ends28 T c rs
  judged_28 left h (unfit w m N f) e z = record { said = w; left = left; came = h; first = rw (e, z) at f }
  judged_28 left h (PROGRAM w f e g) k z = absurd (let y : ⊥ = omega arith in y)
  judged_28 left h (BANKS w p f) k z = absurd (let y : ⊥ = omega arith in y)
  judged_28 left h (MISMATCH w r before x behind crc e f) k z = absurd (let y : ⊥ = omega arith in y)
  judged_28 left h (DONE w r) k z = absurd (let y : ⊥ = omega arith in y)

  pub course_28 : {x : Now} {qs : List Request} → Course T c rs x qs → x ≡ over 28 0 → Ends28 T c rs
  course_28 (waits q o) e = let z : ◌≡◌ {A = ℕ} 0 1 = cc in absurd (let y : ⊥ = omega arith in y)
  course_28 (refused q r later o m N f) e = let k : m ≡ 28 = cc in absurd (let y : ⊥ = omega (arith, reply_turns f.applies) in y)
  course_28 (judged xs left m N h j) e = let k : m ≡ 28 = cc in let z : N ≡ 0 = cc in judged_28 left h j k z
