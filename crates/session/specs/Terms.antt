-- The guide's terms by the settings (document 01, "The session"; document 02, R-13 and R-2). Assumes nothing.
use Rattle.std.specs.Prelude.{ℕ, cond, eqb}
use Rattle.guide.specs.Terms.{Terms}
use Rattle.session.specs.declared.Settings.{Settings}

-- the device's places that a house rule keeps free: two under rule 2, else none
unfoldable pub kept_of : ℕ → ℕ
kept_of rule = cond (eqb rule 2) 2 0

-- where so many places are kept free
abbrev pub keeping : ℕ → Settings → Terms
keeping kept S = record { wanted = S.wanted; limit = S.limit; restore = S.restore; kept = kept; address = S.address }
