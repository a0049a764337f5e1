-- One answer: any two results that the promise of a public function allows for the same input are equal. tests/check-unique holds each
-- of these to the source. Assumes nothing.
use mathlib.Core.Path.{◌≡◌}
use mathlib.Core.List.{List}
use Prim.Native.Nat.{ℕ}
use lib.ListN.{take}
use Rattle.bus.specs.declared.Request.{Request}
use Rattle.bus.specs.Bus.{no_request, read_address, read_of, reserved, write_of, write_with}
use Rattle.bus.specs.ReplyForm.{form_of}
use Rattle.promise.specs.One.{One}
use Rattle.promise.proofs.Equal.{one_answer}

pub one-Bus-write_with : (address : ℕ) (table : List ℕ) (command count : ℕ) (four : List ℕ) → One (λ r. r ≡ write_with address table command (take count four))
one-Bus-write_with address table command count four = one_answer _

pub one-Bus-write : (address command count : ℕ) (four : List ℕ) → One (λ r. r ≡ write_of address command (take count four))
one-Bus-write address command count four = one_answer _

pub one-Bus-read_address : (address : ℕ) → One (λ r. r ≡ read_address address)
one-Bus-read_address address = one_answer _

pub one-Bus-read : (address command count : ℕ) → One (λ r. r ≡ read_of address command count)
one-Bus-read address command count = one_answer _

pub one-Bus-none : One (λ r. r ≡ no_request)
one-Bus-none = one_answer _

pub one-Bus-reserved : (command : ℕ) → One (λ r. r ≡ reserved command)
one-Bus-reserved command = one_answer _

pub one-Request-form : (self : Request) (kind : ℕ) (bytes : List ℕ) → One (λ r. r ≡ form_of self kind bytes)
one-Request-form self kind bytes = one_answer _
