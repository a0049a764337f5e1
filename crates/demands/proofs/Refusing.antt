-- Where a write line is due and what stands at the held place may not go out, the state is refused. Assumes nothing.
use Rattle.std.specs.Prelude.{Some, None, Ok, Err}
use Prim.Native.Nat.{ℕ}
use mathlib.Core.Path.{◌≡◌, refl, ap, ◌∙◌}
use mathlib.Core.Bool.{true, false}
use mathlib.Core.List.{List}
use borrow.Author.Tests.{lt-ltb, eq-eqb, ne_eqb}
use Rattle.counts.specs.declared.LineNumber.{LineNumber}
use Rattle.line.specs.declared.Line.{Line}
use Rattle.line.specs.Reading.{next_line, NextLine}
use Rattle.summary.specs.Burn.{is_burn}
use Rattle.guide.proofs.JudgedExactly.{judged_exactly}
use Rattle.session.specs.declared.Session.{Session}
use Rattle.session.specs.declared.Awaited.{Awaited}
use Rattle.session.specs.Moves.{bad_of}
use Rattle.session.specs.Lines.{took_of, due_of, put_line_of, line_done_of}
use Rattle.session.specs.Stages.{fit_held, fit_done_of, revision_done_of, with_revision}
use Rattle.session.specs.Reply.{follow_of}
use Rattle.demands.specs.Exactly.{Due, first, later, Unfit, no_line, early, late}
use Rattle.guide.specs.Guide.{target_of}
use Rattle.demands.proofs.SettingsSay.{kept_is}

module _ (text : List ℕ) (s : Session) where
  no_line_bad : (n : LineNumber) (t : NextLine) → next_line n s.position.place text ≡ t
      → ((l : Line) (next : ℕ) → next_line n s.position.place text ≡ Ok (Some (l, next)) → ⊥) → due_of s n t ≡ bad_of s
  unfolding due_of
  no_line_bad n (Ok None) e f = refl
  no_line_bad n (Ok (Some (l, next))) e f = absurd (f l next e)
  no_line_bad n (Err fault) e f = refl

  early_bad : (n : LineNumber) (l : Line) (next : ℕ) → is_burn l ≡ true → (n.0 ≡ s.file.lines → ⊥) → due_of s n (Ok (Some (l, next))) ≡ bad_of s
  unfolding due_of took_of
  early_bad n l next b h = simp (b, ne_eqb n.0 s.file.lines h)

  late_bad : (n : LineNumber) (l : Line) (next : ℕ) → is_burn l ≡ false → n.0 ≡ s.file.lines → due_of s n (Ok (Some (l, next))) ≡ bad_of s
  unfolding due_of took_of
  late_bad n l next b h = simp (b, eq-eqb n.0 s.file.lines h)

  unfit_bad : (n : LineNumber) → Unfit text s n → put_line_of text s n ≡ bad_of s
  unfolding put_line_of
  unfit_bad n (no_line f) = no_line_bad n (next_line n s.position.place text) refl f
  unfit_bad n (early l next e b h) = ap (due_of s n) e ∙ early_bad n l next b h
  unfit_bad n (late l next e b h) = ap (due_of s n) e ∙ late_bad n l next b h

  pub due_bad : (word : ℕ) (g : Awaited) (n : LineNumber) → Due s word g n → Unfit text s n → follow_of text s g word ≡ bad_of s
  unfolding follow_of revision_done_of fit_done_of fit_held line_done_of
  due_bad word g n (first kept k f) u =
      rw (kept_is k, (judged_exactly (target_of s.file) kept (with_revision s.position.read word)).passes f) (unfit_bad n u)
  due_bad word g n (later h) u = rw (lt-ltb s.position.line.0 s.file.lines h) (unfit_bad n u)
