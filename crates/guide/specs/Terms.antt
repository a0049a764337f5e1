-- The guide's terms: what the settings decide of its list, in its own words (document 01, "The session"). Assumes nothing.
use Rattle.std.specs.Prelude.{Bool, ℕ}

pub record Terms : Type 0 where
  -- whether step 1 is wanted
  pub wanted : Bool
  -- how often step 4 may read the status
  pub limit : ℕ
  -- the code of RESTORE_CFG, step 6
  pub restore : ℕ
  -- the device's places that are kept free
  pub kept : ℕ
  -- the device's write address
  pub address : ℕ
