-- One answer: any two results that the promise of a public function allows for the same input are equal. tests/check-unique holds each
-- of these to the source. Assumes nothing.
use mathlib.Core.Path.{◌≡◌}
use mathlib.Core.List.{List}
use Prim.Native.Nat.{ℕ, ◌%◌, ◌/◌}
use Rattle.line.specs.declared.Line.{Line}
use Rattle.guide.specs.declared.Reason.{Reason}
use Rattle.guide.specs.declared.Verdict.{Verdict}
use Rattle.guide.specs.Numbers.{reason_number, verdict_told}
use Rattle.guide.specs.Judged.{banks_right, cleared, fit_of, kind_wanted, polled_of}
use Rattle.guide.specs.Requests.{point_to, line_request_with}
use Rattle.guide.specs.Guide.{target_of}
use Rattle.promise.specs.One.{One}
use Rattle.promise.proofs.Equal.{one_answer}
use Rattle.guide.specs.declared.Words.{Words}
use Rattle.guide.specs.declared.Target.{Target}
use Rattle.summary.specs.declared.Summary.{Summary}

pub one-kind_wanted : (counter flag : ℕ) → One (λ r. r ≡ kind_wanted counter flag)
one-kind_wanted counter flag = one_answer _

pub one-Target-of : (file : Summary) → One (λ r. r ≡ target_of file)
one-Target-of file = one_answer _

pub one-Target-fit : (self : Target) (kept : ℕ) (read : Words) → One (λ r. r ≡ fit_of self kept read)
one-Target-fit self kept read = one_answer _

pub one-Polled-of : (status : ℕ) → One (λ r. r ≡ polled_of status)
one-Polled-of status = one_answer _

pub one-banks_right : (configs word : ℕ) → One (λ r. r ≡ banks_right configs word)
one-banks_right configs word = one_answer _

pub one-Reason-number : (self : Reason) → One (λ r. r ≡ reason_number self)
one-Reason-number self = one_answer _

pub one-Verdict-told : (self : Verdict) → One (λ r. r ≡ verdict_told self)
one-Verdict-told self = one_answer _

pub one-cleared : (word : ℕ) → One (λ r. r ≡ cleared word)
one-cleared word = one_answer _

pub one-point : (address register : ℕ) → One (λ r. r ≡ point_to address (register % 256) (register / 256))
one-point address register = one_answer _

pub one-line_request : (address : ℕ) (table : List ℕ) (line : Line) → One (λ r. r ≡ line_request_with address table line)
one-line_request address table line = one_answer _
