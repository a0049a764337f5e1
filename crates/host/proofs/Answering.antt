-- While it lasts, the simulated regulator answers in form at its address, and at no other. Assumes nothing.
use Rattle.std.proofs.Common.{◌≡◌, false, eqb, ◌∷◌, refl, arith, eq-eqb, ne_eqb}
use Rattle.bus.specs.Bus.{eight, framed, read_address, read_of, word_bytes}
use Rattle.bus.specs.InForm.{wrote, register_read, block_read}
use Rattle.host.specs.Replies.{kind_of, handed, word_reply, block_reply, read_reply, heard_reply, device_reply}
use Rattle.host.specs.Statements.{InFormWhileItLasts, SilentElsewhere}

pub in_form_while_it_lasts : InFormWhileItLasts
unfolding device_reply heard_reply read_reply kind_of handed word_reply block_reply framed read_address read_of eight word_bytes
in_form_while_it_lasts d h =
    let here = eq-eqb d.address d.address refl in
    let lasts : eqb d.lasts 0 ≡ false = ne_eqb d.lasts 0 (λ e. omega arith) in
    record {
      writes = λ sent p. rw (here, lasts) (wrote (d.address ∷ sent) p);
      register = rw (here, lasts) (register_read d.address _ _ _ _);
      identity = rw (here, lasts) (block_read d.address _ _ _ _ _);
      revision = rw (here, lasts) (block_read d.address _ _ _ _ _);
    }

pub silent_elsewhere : SilentElsewhere
unfolding device_reply kind_of
silent_elsewhere d q other = rw (ne_eqb _ d.address other)
