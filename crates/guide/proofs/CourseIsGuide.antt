-- Every course of some replies is how the guide goes with them: its exchanges are a path through the guide, and where it ends, the guide
-- ends. Assumes nothing.
use mathlib.Core.Path.{◌≡◌, refl, sym, ap, ◌∙◌}
use mathlib.Core.Logic.{◌⊎◌, inl, inr}
use mathlib.Core.Bool.{false}
use mathlib.Core.List.{List, [], ◌∷◌, ◌++◌, append-nil}
use Prim.Native.Nat.{ℕ, suc, ◌+◌, ◌-◌, ◌%◌, ◌≤◌}
use native.Mathlib.Omega.{arith}
use lib.ListN.{length}
use Rattle.counts.specs.Counts.{config_number}
use Rattle.promise.proofs.Basics.{split}
use Rattle.line.specs.declared.Line.{Line}
use Rattle.summary.specs.declared.Summary.{Summary}
use Rattle.bus.specs.declared.Request.{Request}
use Rattle.bus.specs.ReplyForm.{form_of}
use Rattle.guide.specs.declared.Verdict.{Verdict}
use Rattle.guide.specs.declared.Verdict.TheVariants.{Done, Mismatch, Halted}
use Rattle.guide.specs.declared.Reason.{Reason}
use Rattle.guide.specs.declared.Reason.TheVariants.{Program, Banks}
use Rattle.guide.specs.Numbers.{reason_number, verdict_told}
use Rattle.guide.specs.Terms.{Terms}
use Rattle.guide.specs.Judged.{banks_right}
use Rattle.guide.specs.Plan.{Reply, Mark, Asked, Plan, done, requests, verdict, bare}
use Rattle.guide.specs.Requests.{point_to, read_data}
use Rattle.guide.specs.Guide.{hear, put, gate, lines, polls, step4, step5, step6, guide, target_of, write_lines_of, guide_for}
use Rattle.guide.specs.Matched.{Exchange, wrote, got, Heard, asked_in}
use Rattle.guide.specs.Course.{Content, content_of, heard3, heard4, Said, RightBanks, Now, waiting, over, now_of, Next, here, there}
use Rattle.guide.specs.Course.{opened, shown, Fitting, Programmed, Reported, Judged, unfit, PROGRAM, BANKS, MISMATCH, DONE}
use Rattle.guide.specs.Course.{Run, steps12, steps34, Out, Course, waits, refused, judged}
use Rattle.guide.specs.Course as course
use Rattle.guide.proofs.Banks.{are_right, right_are}
use Rattle.guide.proofs.JudgedExactly.{judged_exactly}
use Rattle.guide.proofs.FitExactly.{fit_is}
use Rattle.guide.proofs.Through.{Leads, arrived, on, asks_of, asks_are, both, leads_verdict, leads_requests}
use Rattle.guide.proofs.Opening.{fit_for, opens}
use Rattle.guide.proofs.ReplyExactly.{first_halts}
use Rattle.guide.proofs.Leading.{lines_leads, polls_run, step5_leads, verify_leads}
use Rattle.guide.proofs.Ending.{poll_passes, poll_fails, banks_fail, verify_fails}
use Rattle.guide.proofs.Every.{behind}

-- ---- what a plan gives behind a path

pub bare-append : (a b : List Asked) → bare (a ++ b) ≡ bare a ++ bare b
unfolding bare
bare-append [] b = refl
bare-append (q ∷ a) b = ap (λ (l : List Request). q.request ∷ l) (bare-append a b)

next_leads : {p p' : Plan} {ys xs : List Exchange} {q : Request} → Leads p ys p' → Next ys xs q → (m : Mark) × (next : ℕ → Plan) × Leads p xs (put m q next)
next_leads {xs = xs} {q = q} (arrived {p = p}) x = elim x [ ]
next_leads (on {m} {q} next l) (here x ys) = (m, next, arrived)
next_leads (on {m} {q} next l) (there x ys xs r n) = let k = next_leads l n in (k.0, k.1, on next k.2)

pub record Gives (p : Plan) (rs : List Reply) (x : Now) (qs : List Request) : Type 0 where
  pub tells : x ≡ now_of (verdict p rs)
  pub asks : qs ≡ bare (requests p rs)

module _ {p p' : Plan} {xs : List Exchange} {rs left : List Reply} (l : Leads p xs p') (h : Heard xs rs left) where
  -- the requests of the path, and those of the rest
  asks_on : (qs : List Request) → bare (requests p' left) ≡ qs → asked_in xs ++ qs ≡ bare (requests p rs)
  asks_on qs e =
      sym (ap bare (leads_requests l h) ∙ (bare-append (asks_of l) (requests p' left) ∙ rw (asks_are l, e)))

  gives : (x : Now) (qs : List Request) → now_of (verdict p' left) ≡ x → bare (requests p' left) ≡ qs → Gives p rs x (asked_in xs ++ qs)
  gives x qs e f = record { tells = sym (ap now_of (leads_verdict l h) ∙ e); asks = asks_on qs f }

ends_so : {p : Plan} {xs : List Exchange} {rs left : List Reply} {x : Now} (v : Verdict) → Leads p xs (done v) → Heard xs rs left
    → over (verdict_told v).number (verdict_told v).config.0 ≡ x → Gives p rs x (asked_in xs)
unfolding verdict requests bare now_of
ends_so {p} {xs} {rs} {left} {x} v l h e = rw append-nil at (gives l h x [] e refl)

module _ {p : Plan} {xs : List Exchange} {rs : List Reply} (m : Mark) (q : Request) (next : ℕ → Plan) (l : Leads p xs (put m q next)) where
  waits_so : Heard xs rs [] → Gives p rs waiting (asked_in xs ++ (q ∷ []))
  unfolding verdict requests bare now_of
  waits_so h = gives l h waiting (q ∷ []) refl refl

  stops_so : (v : Reason) (r : Reply) (later : List Reply) → hear (form_of q r.kind r.bytes) next ≡ done (Halted v) → Heard xs rs (r ∷ later)
      → Gives p rs (over (reason_number v) 0) (asked_in xs ++ (q ∷ []))
  unfolding verdict requests bare now_of
  stops_so v r later e h =
      gives l h (over (reason_number v) 0) (q ∷ []) (ap (λ (x : Plan). now_of (verdict x later)) e) (ap (λ (x : Plan). q ∷ bare (requests x later)) e)

-- ---- the paths of the guide

module _ (T : Terms) (file : Summary) (text : List ℕ) where
  abbrev ls : List Line
  ls = write_lines_of text

  abbrev c : Content
  c = content_of T.address file text

  abbrev P : Plan
  P = guide_for T file text

  abbrev rest : Plan
  rest = step5 T.address file.configs (step6 T file)

  opened_leads : (w : Said) → Leads P (opened T c w) (gate (fit_for T file w.read) (lines T.address 5 ls (behind T file)))
  unfolding guide_for guide
  opened_leads w = (opens T file (lines T.address 5 ls (behind T file)) T.wanted w.captured w.read).leads

  -- steps 1 to 3 and the pointing of step 4, then the statuses before the last
  polled_leads : (w : Said) → Fitting T c w → {ys : List Exchange} {p : Plan} → Leads (polls T.address (suc (T.limit - suc (length w.busy))) rest) ys p
      → Leads P (opened T c w ++ (heard3 c.lines ++ (wrote (point_to T.address 0x7E 0x00) ∷ (heard4 T.address w.busy ++ ys)))) p
  unfolding gate step4
  polled_leads w f {ys} {p} k =
      let n = T.limit in
      let run = polls_run T.address rest (suc (n - suc (length w.busy))) n w.busy (omega (arith, f.polling.within)) f.polling.clear k in
      let step4 : Leads (behind T file) (wrote (point_to T.address 0x7E 0x00) ∷ (heard4 T.address w.busy ++ ys)) p = on _ run in
      both (rw ((judged_exactly (target_of file) T.kept w.read).passes f.fits) at (opened_leads w)) (lines_leads step4 T.address 5 ls)

  shown_leads : (w : Said) → Programmed T c w → {ys : List Exchange} {p : Plan}
      → Leads rest (wrote (point_to T.address 0x7F 0x00) ∷ got (read_data T.address) w.banks ∷ ys) p → Leads P (shown T c w ys) p
  shown_leads w g k = polled_leads w g.fitting (poll_passes T.address rest _ w.last g.passed k)

  reported_leads : (w : Said) → Reported T c w → {ys : List Exchange} {p : Plan} → Leads (step6 T file) ys p → Leads P (shown T c w ys) p
  reported_leads w r k = shown_leads w r.programmed (step5_leads k T.address file.configs w.banks (are_right file.configs w.banks r.right))

  run_leads : {ys : List Exchange} → Run T c ys → (p : Plan) × Leads P ys p
  unfolding polls step5
  run_leads (steps12 w) = (_, opened_leads w)
  run_leads (steps34 w f) = (_, polled_leads w f (on _ arrived))
  run_leads (course.step5 w g) = (_, shown_leads w g (on _ (on _ arrived)))
  run_leads (course.step6 w r) = (_, reported_leads w r (verify_leads T file file.configs 0))

  stop : {rs left : List Reply} {q : Request} (o : Out T c rs q left) → (m : Mark) × (next : ℕ → Plan) × Leads P o.made (put m q next)
  stop o = next_leads (run_leads o.run).1 o.next

  -- ---- where a word does not pass

  wrong_banks : (word : ℕ) → file.configs ≤ 8 → (RightBanks file.configs word → ⊥) → banks_right file.configs word ≡ false
  wrong_banks word few f = split (banks_right file.configs word) (λ e. absurd (f (right_are file.configs word few e))) (λ e. e)

  used_up : (w : Said) → Fitting T c w → (w.last % 2 ≡ 1) ⊎ (suc (length w.busy) ≡ T.limit) → (w.last % 2 ≡ 1) ⊎ (T.limit - suc (length w.busy) ≡ 0)
  used_up w f (inl e) = inl e
  used_up w f (inr e) = inr (omega arith)

  module _ (few : file.configs ≤ 8) (rs : List Reply) where
    judged_so : {xs : List Exchange} {left : List Reply} {m N : ℕ} → Heard xs rs left → Judged T c xs m N → Gives P rs (over m N) (asked_in xs)
    unfolding gate
    judged_so h (unfit w m N f) =
        let i = fit_is (target_of file) T.kept w.read f in
        ends_so (Halted i.0) (rw i.1 at (opened_leads w)) h (rw (i.2, i.3))
    judged_so h (PROGRAM w f ended g) =
        ends_so (Halted Program) (polled_leads w f (poll_fails T.address rest _ w.last (used_up w f ended) g)) h refl
    judged_so h (BANKS w g f) =
        ends_so (Halted Banks) (shown_leads w g (banks_fail T.address (step6 T file) file.configs w.banks (wrong_banks w.banks few f))) h refl
    judged_so h (MISMATCH w r before x behind crc e f) =
        let n : 0 + length before ≡ length before = omega arith in
        ends_so (Mismatch (config_number (length before)))
        (reported_leads w r (rw n at (verify_fails T file file.configs 0 before x behind crc e f))) h refl
    judged_so h (DONE w r) = ends_so Done (reported_leads w r (verify_leads T file file.configs 0)) h refl

    pub course_so : {x : Now} {qs : List Request} → Course T c rs x qs → Gives P rs x qs
    course_so (waits q o) = let k = stop o in waits_so k.0 q k.1 k.2 o.heard
    course_so (refused q r later o m N f) =
        let k = stop o in
        let h = first_halts q r f in
        let g = stops_so k.0 q k.1 k.2 h.reason r later (h.halts k.1) o.heard in
        rw (h.number, h.plain) at g
    course_so (judged xs left m N h j) = judged_so h j
