-- What putting a text does to a page, a lent buffer with the place where its text goes on. Assumes nothing.
use Rattle.std.specs.Prelude.{◌≡◌, ℕ, List}
use Rattle.text.specs.declared.Page.{Page}
use Rattle.text.specs.Text.{Puts}

-- what it does to the buffer at the place, and the buffer stays the one that was lent
pub record PutsOn (before : Page) (bs : List ℕ) (after : Page) : Type 0 where
  pub same : after.room.ghost_name ≡ before.room.ghost_name
  pub puts : Puts before.room.now before.at bs after.room.now after.at
