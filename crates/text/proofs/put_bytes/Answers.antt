-- The bytes stand where there is room for them. Assumes nothing.
use Rattle.std.proofs.Common.{refl}
use Rattle.text.proofs.Laws.{puts_part, puts_not}
use Rattle.text.proofs.put_bytes.Goals as goal

pub returns-then-has_room : goal.returns-then-has_room
returns-then-has_room c = puts_part _ _ _ _ c.if-has_room.ensures refl c.copy_from_slice.ensures.after

pub returns-else-has_room : goal.returns-else-has_room
returns-else-has_room c = puts_not _ _ _ _ c.if-has_room.ensures refl
