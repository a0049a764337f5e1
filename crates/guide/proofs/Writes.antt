-- A write is one of the requests that there are, and its reply in form tells no word. Assumes nothing.
use mathlib.Core.Path.{◌≡◌, refl}
use mathlib.Core.Bool.{false}
use mathlib.Core.List.{List, [], ◌∷◌}
use Prim.Native.Nat.{ℕ}
use lib.Dec.{eqb, ltb}
use lib.ListN.{length}
use Rattle.std.specs.Prelude.{Ok}
use Rattle.promise.proofs.Basics.{split}
use Rattle.bus.specs.declared.Request.{Request}
use Rattle.bus.specs.ReplyForm.{done_form, form_of}
use Rattle.bus.specs.Bus.{framed, write_of}
use Rattle.bus.specs.InForm.{Made, write}
use Rattle.bus.proofs.FormMeans.{good_is}
use Rattle.guide.specs.Plan.{Reply}
use Rattle.guide.specs.Matched.{got, Heard, more}

-- a write is answered with no word
wrote_none : (q : Request) (w kind : ℕ) (bs : List ℕ) → q.reads ≡ false → form_of q kind bs ≡ Ok w → w ≡ 0
unfolding form_of done_form
wrote_none q w kind bs e f =
    split (eqb kind 0) (λ a. cc (simp a at f))
    (λ a. split (ltb 1 kind) (λ b. cc (simp (a, b) at f))
    (λ b. split (eqb (length bs) 0) (λ c. cc (simp (a, b, c, e) at f)) (λ c. cc (simp (a, b, c, e) at f))))

-- a reply in form to one request, with the replies behind it
abbrev pub Came : Request → ℕ → List Reply → List Reply → Type 0
Came q w rs rest = Heard (got q w ∷ []) rs rest

-- a write is one of the requests that there are
pub made_write : (address command : ℕ) (bs : List ℕ) → Made (write_of address command bs)
unfolding write_of
made_write address command bs = write _ _

write_writes : (address command : ℕ) (bs : List ℕ) → (write_of address command bs).reads ≡ false
unfolding write_of framed
write_writes address command bs = refl

pub came_none : (address command : ℕ) (bs : List ℕ) {w : ℕ} {rs rest : List Reply} → Came (write_of address command bs) w rs rest
    → Came (write_of address command bs) 0 rs rest
came_none address command bs {w} (more _ _ r rest left i h) =
    let q = write_of address command bs in
    let z : w ≡ 0 = wrote_none q w r.kind r.bytes (write_writes address command bs) (good_is i) in
    rw z at (more (got q w) [] r rest left i h)
