-- No write line unless they matched: where they did not, what was put out is a beginning of steps 1 and 2. Assumes nothing.
use mathlib.Core.Path.{◌≡◌, refl, sym, ap, ◌∙◌}
use mathlib.Core.Logic.{◌⊎◌, inl, inr}
use mathlib.Core.List.{List, [], ◌∷◌, ◌++◌, append-nil}
use Prim.Native.Nat.{ℕ, ◌≤◌}
use Rattle.std.specs.Prelude.{Result, Ok, Err}
use Rattle.summary.specs.declared.Summary.{Summary}
use Rattle.bus.specs.declared.Request.{Request}
use Rattle.guide.specs.declared.Reason.{Reason}
use Rattle.guide.specs.declared.Words.{Words}
use Rattle.guide.specs.Terms.{Terms}
use Rattle.guide.specs.Judged.{fit_of}
use Rattle.guide.specs.Plan.{Reply, requests, bare}
use Rattle.guide.specs.Guide.{target_of, guide_for}
use Rattle.guide.specs.Matched.{Exchange, Heard, asked_in, opening, Matched}
use Rattle.guide.specs.Course.{Content, content_of, Said, Next, here, there, steps12, Out, unfit, waits, refused, judged}
use Rattle.guide.proofs.JudgedExactly.{judged_exactly}
use Rattle.guide.proofs.FitExactly.{fit_first}
use Rattle.guide.proofs.CourseIsGuide.{course_so}
use Rattle.guide.proofs.StepByStep.{Last, silent, told, Stuck, opening_any}

-- what was asked up to a request is a beginning of what all ask
next_asks : {ys xs : List Exchange} {q : Request} → Next ys xs q → (rest : List Request) × (asked_in ys ≡ (asked_in xs ++ (q ∷ [])) ++ rest)
unfolding asked_in
next_asks (here x ys) = (asked_in ys, refl)
next_asks (there x ys xs q n) = let k = next_asks n in (k.0, ap (λ (l : List Request). x.request ∷ l) k.1)

module _ (T : Terms) (file : Summary) (text : List ℕ) (few : file.configs ≤ 8) (rs : List Reply) where
  abbrev out : List Request
  out = bare (requests (guide_for T file text) rs)

  abbrev c : Content
  c = content_of T.address file text

  abbrev pub Begins12 : Type 0
  Begins12 = (captured : ℕ) × (read : Words) × (rest : List Request) × (asked_in (opening T.address T.wanted captured read) ≡ out ++ rest)

  abbrev said : ℕ → Words → Said
  said captured read = record { captured = captured; read = read; busy = []; last = 0; banks = 0 }

  -- the request that is out is the last
  out_is : {q : Request} {left : List Reply} (o : Out T c rs q left) → Last q left → asked_in o.made ++ (q ∷ []) ≡ out
  out_is o silent = (course_so T file text few rs (waits _ o)).asks
  out_is o (told r later m N f) = (course_so T file text few rs (refused _ r later o m N f)).asks

  stuck_begins : (captured : ℕ) (read : Words) → Stuck (opening T.address T.wanted captured read) rs → Begins12
  stuck_begins captured read s =
      let k = next_asks s.next in
      let o : Out T c rs s.request s.left
      = record { all = _; run = steps12 (said captured read); made = s.made; next = s.next; heard = s.heard } in
      (captured, read, k.0, k.1 ∙ ap (λ (l : List Request). l ++ k.0) (out_is o s.how))

  pub gate_unless12 : Matched T (target_of file) rs ⊎ Begins12
  gate_unless12 =
      opening_any T.address T.wanted rs (λ captured read s. inr (stuck_begins captured read s))
      λ captured read left h. by captured read left h (fit_of (target_of file) T.kept read) refl
    where
      by : (captured : ℕ) (read : Words) (left : List Reply) → Heard (opening T.address T.wanted captured read) rs left
          → (x : Result (Unit {0}) Reason) → fit_of (target_of file) T.kept read ≡ x → Matched T (target_of file) rs ⊎ Begins12
      by captured read left h (Ok tt) e =
          inl (record { captured = captured; read = read; left = left; came = h; fits = (judged_exactly (target_of file) T.kept read).matches e })
      by captured read left h (Err r) e =
          let j = unfit (said captured read) _ 0 (fit_first (target_of file) T.kept read r e) in
          let whole = (course_so T file text few rs (judged _ left _ 0 h j)).asks in
          inr (captured, read, [], whole ∙ sym (append-nil out))
