-- One answer: any two results that the promise of a public function allows for the same input are equal. tests/check-unique holds each
-- of these to the source. Assumes nothing.
use mathlib.Core.Path.{◌≡◌}
use mathlib.Core.List.{List}
use Prim.Native.Nat.{ℕ}
use Rattle.bus.specs.declared.Request.{Request}
use Rattle.text.proofs.OneAnswer.{OnePut, one-put}
use mathlib.Core.Bool.{Bool}
use Rattle.std.specs.Prelude.{Option}
use Rattle.summary.specs.declared.Told.{Told}
use Rattle.dryrun.specs.Parts.{front_of, input_of}
use Rattle.dryrun.specs.Lines.{count_line, checked_line, report_line, request_line}
use Rattle.promise.specs.One.{One}
use Rattle.promise.proofs.Equal.{one_answer}

pub one-parse : (input : List ℕ) → One (λ r. r ≡ input_of input)
one-parse input = one_answer _

pub one-file_in_front : (input : List ℕ) → One (λ r. r ≡ front_of input)
one-file_in_front input = one_answer _

pub one-put_checked : (out : List ℕ) (told : Told) → OnePut out 0 (checked_line told)
one-put_checked out told = one-put

pub one-put_request : (out : List ℕ) (q : Request) → OnePut out 0 (request_line q)
one-put_request out q = one-put

pub one-put_report : (out : List ℕ) (report : Option Told) → OnePut out 0 (report_line report)
one-put_report out report = one-put

pub one-put_count : (out : List ℕ) (sent : ℕ) (burned : Bool) → OnePut out 0 (count_line sent burned)
one-put_count out sent burned = one-put
