-- "None before it", said once for every table of document 01: a table gives each of its rows a turn, and what applies first is what is
-- told. Assumes nothing.
use Rattle.std.specs.Prelude.{ℕ, ◌<◌}

-- the row of this turn applies and tells this, and no row of an earlier turn applies
pub record First (Table : ℕ → ℕ → Type 0) (turn tells : ℕ) : Type 0 where
  pub applies : Table turn tells
  pub none : (i t : ℕ) → i < turn → Table i t → ⊥
