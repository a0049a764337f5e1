-- How long the lines are that a dry run writes. Assumes nothing.
use mathlib.Core.Path.{◌≡◌, refl}
use mathlib.Core.Bool.{Bool, true, false}
use mathlib.Core.List.{List}
use Prim.Native.Nat.{ℕ, zero, suc, ◌*◌, ◌≤◌}
use native.Mathlib.Omega.{arith}
use lib.Dec.{ltb}
use lib.ListN.{length, length-append}
use borrow.Author.Tests.{ltb-true, ltb-false}
use Rattle.std.proofs.Common.{min}
use Rattle.std.specs.Prelude.{Option, Some, None}
use Rattle.std.proofs.Math.Nat.{min-le_right}
use Rattle.promise.proofs.Basics.{split}
use Rattle.bus.specs.declared.Request.{Request}
use Rattle.summary.specs.declared.Told.{Told}
use Rattle.text.specs.Text.{bytes_of}
use Rattle.text.proofs.Laws.{digits-length, decimal-length}
use Rattle.dryrun.specs.Lines.{verb, at_most8, used_hex, request_line, told_where, checked_line, report_line, mark, count_line}

verb-length : (reads : Bool) → length (verb reads) ≤ 6
unfolding verb bytes_of
verb-length true = omega arith
verb-length false = omega arith

pub at_most_8 : (used : ℕ) → at_most8 used ≡ min used 8
unfolding at_most8
at_most_8 used = split (ltb used 8) (λ t. rw t (omega (arith, ltb-true used 8 t))) (λ t. rw t (omega (arith, ltb-false used 8 t)))

used-length : (bs : List ℕ) (i : ℕ) → length (used_hex bs i) ≡ 2 * i
unfolding used_hex
used-length bs zero = refl
used-length bs (suc i) = simp (length-append, digits-length) (omega (arith, used-length bs i))

pub request-length : (q : Request) → length (request_line q) ≤ 32
unfolding request_line bytes_of
request-length q =
    simp length-append (omega (arith, verb-length q.reads, used-length q.bytes (at_most8 q.used), at_most_8 q.used, min-le_right q.used 8))

where-length : (t : Told) → length (told_where t) ≤ 51
unfolding told_where bytes_of
where-length t = simp length-append (omega (arith, decimal-length t.line.0, decimal-length t.place.0))

pub checked-length : (t : Told) → length (checked_line t) ≤ 112
unfolding checked_line bytes_of
checked-length t =
    simp length-append (omega (arith, decimal-length t.number, where-length t))

pub report-length : (r : Option Told) → length (report_line r) ≤ 112
unfolding report_line bytes_of
report-length None = omega arith
report-length (Some t) =
    simp length-append
    (omega (arith, decimal-length t.number, decimal-length t.config.0, where-length t))

mark-length : (burned : Bool) → length (mark burned) ≤ 2
unfolding mark bytes_of
mark-length true = omega arith
mark-length false = omega arith

pub count-length : (sent : ℕ) (burned : Bool) → length (count_line sent burned) ≤ 64
unfolding count_line bytes_of
count-length sent burned = simp length-append (omega (arith, decimal-length sent, mark-length burned))
