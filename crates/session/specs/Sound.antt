-- The settings that are allowed, and what a held state is to be before a reply is looked at (document 01, "15 STATE"). Assumes
-- nothing.
use Rattle.std.specs.Prelude.{ℕ, ◌+◌, ◌*◌, ◌%◌, List, [], ◌∷◌, Bool, true, false, cond, not, eqb, ltb, leb, take}
use Rattle.counts.specs.Counts.{line_count}
use Rattle.counts.specs.declared.ConfigId.{ConfigId}
use Rattle.summary.specs.declared.Summary.{Summary}
use Rattle.bus.specs.Bus.{reserved}
use Rattle.session.specs.declared.Settings.{Settings}
use Rattle.session.specs.declared.Session.{Session}

-- every test of the list holds
unfoldable pub all : List Bool → Bool
all [] = true
all (b ∷ bs) = cond b (all bs) false

-- there are house rules 1 and 2 (document 02, R-13)
unfoldable pub known_rule : ℕ → Bool
known_rule rule = cond (eqb rule 1) true (eqb rule 2)

-- a write address is even, 10 to EE hex (document 02, R-2)
unfoldable pub is_address : ℕ → Bool
is_address address = cond (leb 0x10 address) (cond (leb address 0xEE) (eqb (address % 2) 0) false) false

-- poll limit 1 to 10,000; RESTORE_CFG is none of the six other commands; the house rule; the address
unfoldable pub setting_tests : Settings → List Bool
setting_tests S =
    leb 1 S.limit ∷ leb S.limit 10000 ∷ not (reserved S.restore) ∷ known_rule S.rule ∷ is_address S.address ∷ []

unfoldable pub allowed_of : Settings → Bool
allowed_of S = all (setting_tests S)

unfoldable pub ids_sound : List ConfigId → Bool
ids_sound [] = true
ids_sound (i ∷ is) = cond (leb i.0 15) (ids_sound is) false

-- no identifier under k is above 15
abbrev pub ids_to : List ConfigId → ℕ → Bool
ids_to ids k = ids_sound (take k ids)

-- k is 1 to 8; n is 12 + s x k; the identifiers
unfoldable pub file_tests : Summary → List Bool
file_tests f = leb 1 f.configs ∷ leb f.configs 8 ∷ eqb f.lines (line_count f.kind f.configs) ∷ ids_to f.ids f.configs ∷ []

unfoldable pub file_sound : Summary → Bool
file_sound f = all (file_tests f)

-- n + poll limit + 3 x k + 9
unfoldable pub most_sent : Session → ℕ
most_sent s = s.file.lines + s.settings.limit + 3 * s.file.configs + 9

-- the line in hand is 5 to n; the configuration in hand is under k; the polls used are under the limit; the request count
unfoldable pub held_tests : Session → List Bool
held_tests s =
    leb 5 s.position.line.0 ∷ leb s.position.line.0 s.file.lines ∷ ltb s.position.config.0 s.file.configs
    ∷ ltb s.position.polls s.settings.limit ∷ leb s.sent (most_sent s) ∷ []

unfoldable pub held_sound : Session → Bool
held_sound s = all (held_tests s)

unfoldable pub state_tests : Session → List Bool
state_tests s = allowed_of s.settings ∷ file_sound s.file ∷ held_sound s ∷ []

unfoldable pub sound_of : Session → Bool
sound_of s = all (state_tests s)
