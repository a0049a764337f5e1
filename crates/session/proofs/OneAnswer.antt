-- One answer: any two results that the promise of a public function allows for the same input are equal. tests/check-unique holds each
-- of these to the source. Assumes nothing.
use mathlib.Core.Path.{◌≡◌}
use mathlib.Core.List.{List}
use Prim.Native.Nat.{ℕ}
use Rattle.summary.specs.declared.Summary.{Summary}
use Rattle.session.specs.declared.Settings.{Settings}
use Rattle.session.specs.declared.Session.{Session}
use Rattle.session.specs.declared.Answer.{Answer}
use Rattle.session.specs.Sound.{allowed_of}
use Rattle.session.specs.Begin.{begin_with, begin_of}
use Rattle.session.specs.Reply.{reply_of}
use Rattle.session.specs.Reports.{report_of}
use Rattle.promise.specs.One.{One}
use Rattle.promise.proofs.Equal.{one_answer}

pub one-Settings-allowed : (self : Settings) → One (λ r. r ≡ allowed_of self)
one-Settings-allowed self = one_answer _

pub one-Settings-begin_with : (self : Settings) (file : Summary) → One (λ r. r ≡ begin_with self file)
one-Settings-begin_with self file = one_answer _

pub one-Settings-begin : (self : Settings) (text : List ℕ) → One (λ r. r ≡ begin_of self text)
one-Settings-begin self text = one_answer _

pub one-Session-reply : (text : List ℕ) (self : Session) (kind : ℕ) (bytes : List ℕ) → One (λ r. r ≡ reply_of text self kind bytes)
one-Session-reply text self kind bytes = one_answer _

pub one-Answer-report : (self : Answer) → One (λ r. r ≡ report_of self)
one-Answer-report self = one_answer _
