-- Where all lines are good, what the walk keeps and what is read at places is what the lines say by their numbers.
-- Assumes nothing.
use Rattle.std.specs.Prelude.{Ok}
use mathlib.Core.Path.{◌≡◌, refl, ap, ◌∙◌}
use mathlib.Core.List.{List}
use Prim.Native.Nat.{ℕ, ◌-◌, ◌≤◌, ◌<◌}
use native.Mathlib.Omega.{arith}
use lib.ListN.{length}
use Rattle.counts.specs.declared.Kind.{Kind}
use Rattle.counts.specs.Counts.{line_number, config_number, config_id, identifier_line, crc_line}
use Rattle.line.specs.declared.Line.{Line}
use Rattle.cuts.specs.Lines.{lines_of, place_of}
use Rattle.image.specs.declared.Facts.{Facts}
use Rattle.image.specs.declared.Spots.{Spots}
use Rattle.image.specs.Says.{identity_of, id_of, crc_of, line_no, file_kind, file_configs, id_line, config_crc_line, eight_of, summary_of}
use Rattle.image.specs.Tests.{burn_amiss, other_spot, same_ids}
use Rattle.image.specs.Private.Walk.{start, facts_from, burn_amiss_in, line_at, off_spot, off_spots, id_line_at, crc_line_at, spots_to, same_in}
use Rattle.image.proofs.Holds.{Holds}
use Rattle.image.proofs.Search.{below_same}
use Rattle.image.proofs.Counting.{crc_some}
use Rattle.image.proofs.WalkSays.{says_of, says-length, says_at}
use Rattle.image.proofs.HeldLines.{held, line_is}
use Rattle.image.proofs.WalkBurns.{facts_are, lines_of_lem, burn_amiss_lem}
use Rattle.image.proofs.WalkSpots.{ids_are, crcs_are, same_is}

module _ (s : List ℕ) (g : Facts) (whole : facts_from start (lines_of s) ≡ Ok g) where
  pub good : Holds s 0 1 (says_of (lines_of s))
  unfolding start
  good = held s (lines_of s) 0 start g refl whole

  -- the line read at its place is the line with its number
  pub line_no_lem : (n : ℕ) → 1 ≤ n → line_at (line_number n) s ≡ line_no (lines_of s) (line_number n)
  unfolding line_no
  line_no_lem n h = line_is s (says_of (lines_of s)) good n h ∙ says_at (lines_of s) (n - 1)

  pub count : g.lines ≡ length (lines_of s)
  unfolding start
  count =
      ap (λ (f : Facts). f.lines) (facts_are (lines_of s) start g whole)
      ∙ (lines_of_lem start (says_of (lines_of s)) ∙ omega (arith, says-length (lines_of s)))

  pub burn : 0 < length (lines_of s) → burn_amiss_in g ≡ burn_amiss (lines_of s)
  burn h = ap burn_amiss_in (facts_are (lines_of s) start g whole) ∙ burn_amiss_lem (lines_of s) h

  -- ---- the configurations' lines
  module _ (kind : Kind) (isKind : file_kind (lines_of s) ≡ kind) where
    id_line_lem : (N : ℕ) → id_line_at kind s N ≡ id_line (lines_of s) N
    unfolding id_line
    id_line_lem N = rw isKind (line_no_lem (identifier_line kind (config_number N)).0 (omega arith))

    crc_line_lem : (N : ℕ) → crc_line_at kind s N ≡ config_crc_line (lines_of s) N
    unfolding config_crc_line
    crc_line_lem N = rw isKind (line_no_lem (crc_line kind (config_number N)).0 (omega (arith, crc_some kind N)))

    id_lines : id_line_at kind s ≡ id_line (lines_of s)
    id_lines i N = id_line_lem N i

    crc_lines : crc_line_at kind s ≡ config_crc_line (lines_of s)
    crc_lines i N = crc_line_lem N i

    module _ (k : ℕ) (isConfigs : file_configs (lines_of s) ≡ k) (few : k ≤ 8) where
      pub other_spot_lem : off_spots kind s k ≡ other_spot (lines_of s)
      unfolding other_spot off_spot
      other_spot_lem = rw isConfigs (below_same k _ _ (λ N h. rw (id_line_lem N, crc_line_lem N)))

      ids_said : (spots_to kind s k).ids ≡ eight_of k (λ N. id_of (id_line (lines_of s) N)) (config_id 0)
      ids_said = ids_are kind s k few ∙ ap (λ (f : ℕ → Line). eight_of k (λ N. id_of (f N)) (config_id 0)) id_lines

      crcs_said : (spots_to kind s k).crcs ≡ eight_of k (λ N. crc_of (config_crc_line (lines_of s) N)) 0
      crcs_said = crcs_are kind s k few ∙ ap (λ (f : ℕ → Line). eight_of k (λ N. crc_of (f N)) 0) crc_lines

      pub same_ids_lem : same_in (spots_to kind s k).ids k ≡ same_ids (lines_of s)
      unfolding same_ids
      same_ids_lem = rw (ids_said, isConfigs) (same_is (λ N. id_of (id_line (lines_of s) N)) k few)

      -- what is said where no test is true, by what is read for it
      pub said : {identity line5 : ℕ} {spots : Spots} → identity ≡ identity_of (line_at (line_number 1) s) → line5 ≡ place_of 4 s → spots_to kind s k ≡ spots
          → record { kind = kind; identity = identity; lines = g.lines; configs = k; line5 = line5; ids = spots.ids; crcs = spots.crcs } ≡ summary_of s
      unfolding summary_of
      said p q r =
          let ids = ids_said in
          let crcs = crcs_said in
          let identity = ap identity_of (line_no_lem 1 (omega arith)) in
          let lines = count in
          rw (p, q, ← r, isConfigs, isKind) (cc)
