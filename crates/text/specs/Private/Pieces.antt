-- What the private functions of other crates are held to that put a text on a page piece by piece. Nothing public cites this page.
-- Assumes nothing.
use Rattle.std.specs.Prelude.{◌≡◌, ℕ, ◌+◌, ◌≤◌, List, length}
use Rattle.text.specs.declared.Page.{Page}
use Rattle.text.specs.Text.{Puts}

-- the whole is put where there is room for it, and the buffer stays the one that was lent
pub record PutsIfRoom (before : Page) (bs : List ℕ) (after : Page) : Type 0 where
  pub same : after.room.ghost_name ≡ before.room.ghost_name
  pub fitting : before.at + length bs ≤ length before.room.now → Puts before.room.now before.at bs after.room.now after.at
