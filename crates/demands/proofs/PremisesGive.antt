-- What an accepted file and allowed settings leave known to a session: the text holds the guide's write lines from the place that
-- the summary names, and 15 lets the file and the settings pass. Assumes nothing.
use Rattle.std.specs.Prelude.{Ok, Err}
use mathlib.Core.Path.{◌≡◌, refl, sym, ap, ◌∙◌}
use mathlib.Core.List.{List, [], ◌∷◌}
use mathlib.Core.Bool.{true}
use Prim.Native.Nat.{ℕ, zero, suc, ◌≤◌, ◌<◌}
use native.Mathlib.Omega.{arith}
use lib.ListN.{get_or, take, drop}
use borrow.Author.Tests.{le-leb, eq-eqb}
use Rattle.counts.specs.declared.ConfigId.{ConfigId}
use Rattle.counts.specs.Counts.{config_id}
use Rattle.line.specs.declared.Line.{Line}
use Rattle.cuts.specs.Lines.{lines_of}
use Rattle.summary.specs.declared.Refusal.{Refusal}
use Rattle.summary.specs.Answers.{FileAnswer, no_summary}
use Rattle.image.specs.Says.{summary_of}
use Rattle.image.specs.Check.{answer_of, checked_as, check_of}
use Rattle.image.specs.Meets.{Meets, SummarySays}
use Rattle.image.proofs.Holds.{Sound}
use Rattle.image.proofs.WalkSays.{line_says, says_of}
use Rattle.image.proofs.TestsPass.{answer_is, summary_is}
use Rattle.image.proofs.AcceptedExactly.{zero_accepts, accepted_exactly}
use Rattle.image.proofs.AcceptedHolds.{held_writes, burn_writes, sound}
use Rattle.guide.specs.Guide.{lines_as, write_lines_of}
use Rattle.guide.proofs.FileFacts.{lines_are_lem, some_line_lem, FileFacts}
use Rattle.guide.proofs.OfText.{meets_facts}
use Rattle.session.specs.declared.Settings.{Settings}
use Rattle.session.specs.Sound.{all, ids_sound, file_tests, file_sound}
use Rattle.demands.specs.Guided.{Premises}
use Rattle.demands.proofs.WhereItStands.{Lasting}
use Rattle.demands.proofs.SettingsSay.{is_allowed}
use Rattle.image.proofs.SummarySays.{summary_says}
use Rattle.summary.specs.declared.Summary.{Summary}

-- ---- the file

-- the checker's lines are the guide's
says-drop : (k : ℕ) (ts : List (List ℕ)) → drop k (says_of ts) ≡ lines_as (drop k ts)
unfolding says_of lines_as
says-drop zero [] = refl
says-drop zero (t ∷ ts) = ap (λ (ls : List Line). line_says t ∷ ls) (says-drop zero ts)
says-drop (suc k) [] = refl
says-drop (suc k) (t ∷ ts) = says-drop k ts

ids_sound_lem : (ids : List ConfigId) (k : ℕ) → ((N : ℕ) → N < k → (get_or ids N (config_id 0)).0 ≤ 15) → ids_sound (take k ids) ≡ true
unfolding ids_sound
ids_sound_lem ids zero f = refl
ids_sound_lem [] (suc k) f = refl
ids_sound_lem (i ∷ is) (suc k) f = rw (le-leb i.0 15 (f 0 (omega arith))) (ids_sound_lem is k (λ N h. f (suc N) (omega arith)))

-- a refused check's summary is of zeros
pub refused_summary : (text : List ℕ) (r : Refusal) → (check_of text).answer ≡ Err r → (check_of text).summary ≡ no_summary
unfolding check_of checked_as
refused_summary text r = by (answer_of text)
  where
    by : (a : FileAnswer) → (checked_as text a).answer ≡ Err r → (checked_as text a).summary ≡ no_summary
    by (Ok tt) e = let z : ◌≡◌ {A = ℕ} 0 1 = cc in absurd (let y : ⊥ = omega arith in y)
    by (Err q) e = refl

module _ (text : List ℕ) (taken : (check_of text).answer ≡ Ok tt) where
  abbrev file : Summary
  file = (check_of text).summary

  pub file_sound_lem : file_sound file ≡ true
  unfolding file_sound file_tests all
  file_sound_lem =
      let f : Sound file = sound text taken in
      rw (
        le-leb 1 file.configs f.some,
        le-leb file.configs 8 f.few,
        eq-eqb file.lines _ f.count,
        ids_sound_lem file.ids file.configs f.ids,
      )

module _ {S : Settings} {kept : ℕ} {text : List ℕ} {file : Summary} (P : Premises S kept text file) where
  pub taken : (check_of text).answer ≡ Ok tt
  taken = zero_accepts (check_of text).answer P.accepted

  pub meets : Meets text
  meets = (accepted_exactly text).accepted_meets P.accepted

  -- what the summary says of the text
  pub says : SummarySays text meets
  says = summary_says meets

  pub facts : FileFacts file text
  facts = rw P.summary (meets_facts text meets)

  pub lasting : Lasting text (write_lines_of text) S file
  unfolding write_lines_of
  lasting =
      let ls : drop 4 (says_of (lines_of text)) ≡ write_lines_of text = says-drop 4 (lines_of text) in
      let f : Sound file = rw P.summary (sound text taken) in
      let told : (check_of text).summary ≡ summary_of text = summary_is text (sym (answer_is text) ∙ taken) in
      record {
        allowed = is_allowed S P.rule P.allowed;
        sound = rw P.summary (file_sound_lem text taken);
        some_poll = P.allowed.some;
        some_config = f.some;
        some_line = some_line_lem text facts;
        lines_are = lines_are_lem text facts;
        holds = rw (P.summary, told, ← ls) (held_writes text taken);
        burns = rw ls at (burn_writes text taken);
      }
