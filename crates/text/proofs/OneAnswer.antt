-- One answer: any two results that the promise of a public function allows for the same input are equal. tests/check-unique holds each
-- of these to the source. Assumes nothing.
use mathlib.Core.Path.{◌≡◌, sym, ◌∙◌}
use mathlib.Core.List.{List}
use Prim.Native.Nat.{ℕ}
use Rattle.text.specs.declared.Page.{Page}
use Rattle.text.specs.Page.{PutsOn}
use Rattle.text.specs.Text.{hex, decimal, Puts}

-- a text put into a buffer: the buffer after it, and the place that is answered
abbrev pub OnePut : List ℕ → ℕ → List ℕ → Type 0
OnePut out at bs = (after later : List ℕ) (r q : ℕ) → Puts out at bs after r → Puts out at bs later q → (after ≡ later) × (r ≡ q)

pub one-put : {out bs : List ℕ} {at : ℕ} → OnePut out at bs
one-put after later r q p o = (p.content ∙ sym o.content, p.place ∙ sym o.place)

pub one-put_bytes : (out : List ℕ) (at : ℕ) (bytes : List ℕ) → OnePut out at bytes
one-put_bytes out at bytes = one-put

pub one-put_hex : (WIDTH : ℕ) (out : List ℕ) (at n : ℕ) → OnePut out at (hex WIDTH n)
one-put_hex WIDTH out at n = one-put

pub one-put_decimal : (out : List ℕ) (at n : ℕ) → OnePut out at (decimal n)
one-put_decimal out at n = one-put

-- a text put on a page: its buffer after it, and its place
abbrev pub OneOn : Page → List ℕ → Type 0
OneOn page bs =
    (after later : Page) → PutsOn page bs after → PutsOn page bs later → (after.room.now ≡ later.room.now) × (after.at ≡ later.at)

one-on : {page : Page} {bs : List ℕ} → OneOn page bs
one-on after later p o = one-put _ _ _ _ p.puts o.puts

pub one-Page-bytes : (self : Page) (bytes : List ℕ) → OneOn self bytes
one-Page-bytes self bytes = one-on

pub one-Page-hex : (WIDTH : ℕ) (self : Page) (n : ℕ) → OneOn self (hex WIDTH n)
one-Page-hex WIDTH self n = one-on

pub one-Page-decimal : (self : Page) (n : ℕ) → OneOn self (decimal n)
one-Page-decimal self n = one-on
