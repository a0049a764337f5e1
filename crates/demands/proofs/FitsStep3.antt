-- Step 3: the line that stands at the held place is the guide's next write line, and only line n is the burn. Assumes nothing.
use mathlib.Core.Path.{◌≡◌, refl, ap}
use mathlib.Core.List.{List, [], ◌∷◌}
use mathlib.Core.Bool.{true, false, or-true, or-false}
use Prim.Native.Nat.{ℕ, suc, ◌+◌, ◌≤◌}
use native.Mathlib.Omega.{arith}
use lib.Dec.{eqb}
use lib.ListN.{length}
use borrow.Author.Tests.{lt-ltb, le-ltb, eq-eqb, ne_eqb}
use Rattle.std.specs.Prelude.{Result, Ok, Err}
use Rattle.counts.specs.Counts.{line_number, first_line}
use Rattle.line.specs.declared.Line.{Line}
use Rattle.image.proofs.Holds.{Holds, BurnLast}
use Rattle.bus.specs.Bus.{framed, write_of}
use Rattle.guide.specs.declared.Reason.{Reason}
use Rattle.guide.specs.declared.Verdict.TheVariants.{Halted}
use Rattle.guide.specs.Plan.{file_line}
use Rattle.guide.specs.Guide.{gate, lines}
use Rattle.guide.specs.Requests.{line_request}
use Rattle.guide.specs.Statements.{is_burn_mark}
use Rattle.session.specs.declared.Session.{Session}
use Rattle.session.specs.declared.Awaited.TheVariants.{LineOut, StatusAt}
use Rattle.session.specs.Moves.{with_stage, with_position, with_burned, with_sent}
use Rattle.session.specs.Lines.{at_line, due_put_of, took_of, due_of, put_line_of, line_done_of}
use Rattle.session.specs.Stages.{fit_done_of}
use Rattle.demands.proofs.RestOfGuide
use Rattle.demands.proofs.WhereItStands.{Lasting, Bounds, Fresh, line, config, line_out_lem, status_at_lem}
use Rattle.demands.proofs.FitsCall.{Fits, end_fits, put_fits, other_fits}
use Rattle.demands.proofs.RestOfGuide.{terms_of}

module _ (text : List ℕ) (ls : List Line) where
  line_fits : (s : Session) (i : ℕ) (l : Line) (more : List Line) → Holds text s.position.place i (l ∷ more) → BurnLast (l ∷ more)
      → 5 ≤ i → i + length more ≡ s.file.lines → config text ls s ≡ 0 → s.position.polls ≡ 0
      → Lasting text ls s.settings s.file
      → Fits text ls s (RestOfGuide.lines_from (terms_of s.settings) s.file ls i (l ∷ more)) (put_line_of text s (line_number i))
  unfolding Holds BurnLast RestOfGuide.lines_from RestOfGuide.line_out lines put_line_of due_of took_of due_put_of with_position with_burned with_stage with_sent at_line line_request write_of framed is_burn_mark
  line_fits s i l [] (next, e, h) b low end c p K =
      let z : eqb i (4 + length ls) ≡ true = eq-eqb i (4 + length ls) (omega arith) in
      rw (e, b, eq-eqb i s.file.lines (omega arith))
      (put_fits text ls s (with_burned (with_position s (at_line s.position (line_number i) next)) true) LineOut (file_line i) _ _
      refl refl refl (rw (z, or-true)) (omega arith)
      (line_out_lem l [] c p end h b) (omega arith) K)
  line_fits s i l (m ∷ more) (next, e, h) b low end c p K =
      let z : eqb i (4 + length ls) ≡ false = ne_eqb i (4 + length ls) (omega arith) in
      rw (e, b.0, ne_eqb i s.file.lines (omega arith))
      (put_fits text ls s (with_burned (with_position s (at_line s.position (line_number i) next)) s.burned) LineOut (file_line i) _ _
      refl refl refl (rw (z, or-false)) (omega arith)
      (line_out_lem l (m ∷ more) c p end h b) (omega arith) K)

  first_line_fits : (s : Session) (m : List Line) → ls ≡ m → BurnLast m → Fresh text ls s → Lasting text ls s.settings s.file
      → Fits text ls s (RestOfGuide.lines_from (terms_of s.settings) s.file ls 5 m) (put_line_of text s first_line)
  unfolding BurnLast
  first_line_fits s [] e b f K = absurd b
  first_line_fits s (l ∷ more) e b f K =
      let h : Holds text s.position.place 5 (l ∷ more) = rw (f.from_start, ← e) K.holds in
      let z : length ls ≡ suc (length more) = ap length e in
      line_fits s 5 l more h b (omega arith) (omega arith) f.no_configs f.no_polls K

  pub next_line_fits : (s : Session) (l : Line) (more : List Line) → Holds text s.position.place (line text ls s + 1) more → BurnLast (l ∷ more)
      → config text ls s ≡ 0 → s.position.polls ≡ 0 → line text ls s + length more ≡ s.file.lines → Bounds text ls s
      → Lasting text ls s.settings s.file
      → Fits text ls s (RestOfGuide.lines_from (terms_of s.settings) s.file ls (line text ls s + 1) more) (line_done_of text s)
  unfolding BurnLast RestOfGuide.lines_from RestOfGuide.status_at lines line_done_of write_of framed with_stage with_sent is_burn_mark
  next_line_fits s l [] h d c p e b K =
      rw (le-ltb (line text ls s) s.file.lines (omega arith))
      (other_fits text ls s StatusAt _ _ (omega arith) (status_at_lem c p) (omega arith) K)
  next_line_fits s l (m ∷ more) h d c p e b K =
      rw (lt-ltb (line text ls s) s.file.lines (omega arith))
      (line_fits s (line text ls s + 1) m more h d.1 (omega arith) (omega arith) c p K)

  pub gate_fits : (s : Session) (x : Result (Unit {0}) Reason) → Fresh text ls s → Lasting text ls s.settings s.file
      → Fits text ls s (gate x (RestOfGuide.lines_from (terms_of s.settings) s.file ls 5 ls)) (fit_done_of text s x)
  unfolding gate fit_done_of
  gate_fits s (Ok tt) f K = first_line_fits s ls refl K.burns f K
  gate_fits s (Err r) f K = end_fits text ls s (Halted r)
