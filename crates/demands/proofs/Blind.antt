-- What replies in form do not say of the requests: those that answer step 2 answer these too, in which other registers are pointed
-- to and the burn itself stands where the flag's register is pointed to. So demand 2 and the headline say the requests word for word.
-- Assumes nothing.
use mathlib.Core.Path.{◌≡◌}
use mathlib.Core.List.{List, [], ◌∷◌}
use Prim.Native.Nat.{ℕ}
use Rattle.std.specs.Prelude.{Ok}
use Rattle.bus.specs.Bus.{framed, write_of}
use Rattle.guide.specs.Requests.{point_to, read_data, read_block}
use Rattle.bus.specs.ReplyForm.{done_form, form_of}
use Rattle.bus.specs.InForm.{InForm, Says, Means}
use Rattle.bus.proofs.FormMeans.{good_is, form_means}
use Rattle.guide.proofs.Writes.{made_write}
use Rattle.guide.specs.declared.Words.{Words}
use Rattle.guide.specs.Plan.{Reply}
use Rattle.guide.specs.Matched.{Exchange, wrote, got, Heard, none, more, heard2}

abbrev elsewhere : ℕ → Words → List Exchange
elsewhere address read =
    wrote (point_to address 0x11 0x22) ∷ got (read_data address) read.counter ∷ got (read_block address 0xAD) read.identity
    ∷ wrote (write_of address 0xE7 (0x08 ∷ 0x00 ∷ [])) ∷ got (read_data address) read.flag ∷ got (read_block address 0xAE) read.revision ∷ []

-- a write's reply does not tell what was written
again : (address command other : ℕ) (bs cs : List ℕ) {kind : ℕ} {rs : List ℕ} → InForm (write_of address command bs) kind rs 0 → InForm (write_of address other cs) kind rs 0
unfolding write_of Means Says form_of done_form framed
again address command other bs cs {kind} {rs} i =
    let e : form_of (write_of address command bs) kind rs ≡ Ok 0 = good_is i in
    (form_means (made_write address other cs) kind rs (Ok 0)).0 e

pub blind : (address : ℕ) (read : Words) (rs left : List Reply) → Heard (heard2 address read) rs left → Heard (elsewhere address read) rs left
blind address read _ left (more _ _ r1 _ _ e1 (more _ _ r2 _ _ e2 (more _ _ r3 _ _ e3 (more _ _ r4 _ _ e4 (more _ _ r5 _ _ e5 (more _ _ r6 _ _ e6 (none rs))))))) =
    more _ _ r1 _ left (again address 0xC7 0xC7 _ _ e1) (more _ _ r2 _ left e2 (more _ _ r3 _ left e3
    (more _ _ r4 _ left (again address 0xC7 0xE7 _ _ e4) (more _ _ r5 _ left e5 (more _ _ r6 _ left e6 (none rs))))))
