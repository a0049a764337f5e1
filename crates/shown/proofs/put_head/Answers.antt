-- The pieces, one behind the other. Assumes nothing.
use Rattle.text.proofs.Laws.{one, more, both}
use Rattle.text.specs.Text.{bytes_of}
use Rattle.shown.specs.Shown.{head_of}
use Rattle.shown.proofs.put_head.Goals as goal

pub returns : goal.returns
unfolding head_of bytes_of
returns c =
    let kind = both (one c.bytes.ensures) c.put_kind.ensures in
    let identity = more (more kind c.bytes-2.ensures) c.hex.ensures in
    let lines = more (more identity c.bytes-3.ensures) c.decimal.ensures in
    more (more (more lines c.bytes-4.ensures) c.decimal-2.ensures) c.bytes-5.ensures
