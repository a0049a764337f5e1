-- The digits stand where there is room for them. Assumes nothing.
use Rattle.std.proofs.Common.{ap, ◌∙◌}
use Rattle.text.specs.Text.{digits}
use Rattle.text.proofs.Laws.{digits-length, part-length, puts_part, puts_not}
use Rattle.text.proofs.put_hex.Goals as goal

pub returns-then-has_room : goal.returns-then-has_room
returns-then-has_room g c =
    puts_part _ _ _ _ c.if-has_room.ensures (digits-length _ _ _)
    (c.spell.ensures ∙ ap (λ w. digits 16 w c.args.n) (part-length _ _ _ c.if-has_room.ensures))

pub returns-else-has_room : goal.returns-else-has_room
returns-else-has_room g c = puts_not _ _ _ _ c.if-has_room.ensures (digits-length _ _ _)
