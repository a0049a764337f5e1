-- Laws of the definitions that the functions' proofs cite. Assumes nothing.
use Rattle.summary.specs.Answers.{FileAnswer}
use Prim.Native.Nat.{ℕ, ◌+◌, ◌*◌, ◌≤◌, ◌<◌}
use mathlib.Core.Path.{◌≡◌, ◌∙◌, sym, ap}
use mathlib.Core.Bool.{Bool, true, false, cond}
use mathlib.Core.List.{List}
use native.Mathlib.Omega.{arith}
use borrow.Author.Tests.{ltb-true, leb-true, eqb-true}
use Rattle.counts.specs.Counts.{line_count}
use Rattle.counts.specs.declared.Kind.{Kind}
use Rattle.counts.specs.declared.Kind.TheVariants.{Legacy, Production}
use Rattle.summary.specs.declared.Checked.{Checked}
use Rattle.image.specs.Check.{check_of}
use Rattle.bus.specs.ReplyForm.{form_of}
use Rattle.guide.specs.declared.Verdict.{Verdict}
use Rattle.summary.specs.declared.Summary.{Summary}
use Rattle.guide.specs.declared.Verdict.TheVariants.{Setting, State}
use Rattle.session.specs.declared.Settings.{Settings}
use Rattle.session.specs.declared.Session.{Session}
use Rattle.session.specs.declared.Awaited.{Awaited}
use Rattle.session.specs.declared.Stage.TheVariants.{Open, Ended}
use Rattle.session.specs.Moves.{over_of, bad_of}
use Rattle.session.specs.Private.Ready.{Ready}
use Rattle.session.specs.Sound.{setting_tests, allowed_of, file_tests, file_sound, most_sent, held_tests, held_sound, state_tests, sound_of}
use Rattle.session.specs.Reply.{replied_of, stage_of, reply_of}
use Rattle.session.specs.Begin.{start_of, refused_of, begin_with, answered_of, checked_of, begin_of}
use Rattle.session.proofs.Tests.{all_at, chosen}

lines_small : (kind : Kind) (k : ℕ) → k ≤ 8 → line_count kind k ≤ 2916
lines_small Legacy k h = omega arith
lines_small Production k h = omega arith

-- what the stages use of a state that 15 lets pass
pub ready : (s : Session) → sound_of s ≡ true → Ready s
unfolding sound_of state_tests allowed_of setting_tests file_sound file_tests held_sound held_tests most_sent
ready s e =
    let a : allowed_of s.settings ≡ true = all_at (state_tests s) 0 e in
    let f : file_sound s.file ≡ true = all_at (state_tests s) 1 e in
    let h : held_sound s ≡ true = all_at (state_tests s) 2 e in
    let l : s.settings.limit ≤ 10000 = leb-true _ _ (all_at (setting_tests s.settings) 1 a) in
    let k : s.file.configs ≤ 8 = leb-true _ _ (all_at (file_tests s.file) 1 f) in
    let n : s.file.lines ≡ line_count s.file.kind s.file.configs = eqb-true _ _ (all_at (file_tests s.file) 2 f) in
    let m : line_count s.file.kind s.file.configs ≤ 2916 = lines_small s.file.kind s.file.configs k in
    let g : s.position.config.0 < s.file.configs = ltb-true _ _ (all_at (held_tests s) 2 h) in
    let p : s.position.polls < s.settings.limit = ltb-true _ _ (all_at (held_tests s) 3 h) in
    let t : s.sent ≤ s.file.lines + s.settings.limit + 3 * s.file.configs + 9 = leb-true _ _ (all_at (held_tests s) 4 h) in
    record { sent_small = omega arith; polls_small = omega arith; config_small = omega arith; configs_small = omega arith }

-- a reply, by the stage that is held
module _ (text : List ℕ) (s : Session) (kind : ℕ) (bs : List ℕ) where
  pub when_ended : (v : Verdict) → s.stage ≡ Ended v → over_of s v ≡ reply_of text s kind bs
  unfolding reply_of stage_of
  when_ended v e = ap (stage_of text s kind bs) (sym e)

  pub when_open : (g : Awaited) (b : Bool) → s.stage ≡ Open g → sound_of s ≡ b
      → cond b (replied_of text s g (form_of s.hand kind bs)) (bad_of s) ≡ reply_of text s kind bs
  unfolding reply_of stage_of
  when_open g b e q = chosen (sound_of s) b _ _ q ∙ ap (stage_of text s kind bs) (sym e)

-- a begin with a summary
module _ (S : Settings) (f : Summary) where
  pub begin_sound : allowed_of S ≡ true → file_sound f ≡ true → start_of S f ≡ begin_with S f
  unfolding begin_with
  begin_sound q p = rw (q, p)

  pub begin_unsound : allowed_of S ≡ true → file_sound f ≡ false → refused_of S State ≡ begin_with S f
  unfolding begin_with
  begin_unsound q p = rw (q, p)

  pub begin_out : allowed_of S ≡ false → refused_of S Setting ≡ begin_with S f
  unfolding begin_with
  begin_out q = rw q

-- a begin, by what the file's check says
module _ (S : Settings) (text : List ℕ) where
  pub begin_answered : (k : Checked) (a : FileAnswer) → k ≡ check_of text → allowed_of S ≡ true → k.answer ≡ a
      → answered_of S k.summary a ≡ begin_of S text
  unfolding begin_of checked_of
  begin_answered k a e q p = ap (answered_of S k.summary) (sym p) ∙ (ap (checked_of S) e ∙ chosen (allowed_of S) true _ _ q)

  pub begin_not : allowed_of S ≡ false → refused_of S Setting ≡ begin_of S text
  unfolding begin_of
  begin_not q = chosen (allowed_of S) false _ _ q
