-- Each spot is the line with its number: the places behind the lines before it add up. Assumes nothing.
use Rattle.std.proofs.Common.{◌≡◌, ◌∙◌, ℕ, ◌+◌, ◌-◌, ◌*◌, false, List, Option, Some, sym, refl, ap}
use lib.ListN.{set}
use Rattle.counts.specs.declared.ConfigId.{ConfigId}
use Rattle.counts.specs.Counts.{config_number, step_of, crc_place, identifier_line, crc_line}
use Rattle.cuts.specs.Lines.{place_of}
use Rattle.image.specs.declared.Spots.{Spots}
use Rattle.image.specs.Says.{id_of, crc_of}
use Rattle.image.specs.Private.Walk.{line_at, off_at, spots_with}
use Rattle.image.proofs.SpotPlaces.{place_more, to_id, to_crc, to_next}
use Rattle.image.proofs.config_lines.spots_with.Goals as goal

same_marked : {is js : List ConfigId} {cs ds : List ℕ} {m n : ℕ} → is ≡ js → cs ≡ ds → m ≡ n →
    ◌≡◌ {A = Option (Spots × ℕ)} (Some (record { ids = is; crcs = cs }, m)) (Some (record { ids = js; crcs = ds }, n))
same_marked p q t i = Some (record { ids = p i; crcs = q i }, t i)

pub returns : goal.returns
unfolding spots_with line_at
returns c =
    let a = c.args in
    let s = a.s.now in
    let first = step_of a.kind * a.n + 11 in
    let to_crc_line = crc_place a.kind - 12 in
    let id_place : c.skip-id_at.result ≡ place_of first s =
    c.skip-id_at.ensures ∙ place_more (step_of a.kind * a.n) 11 first s c.requires.1 refl in
    let crc_place_is : c.skip-crc_at.result ≡ place_of (first + to_crc_line) s =
    c.skip-crc_at.ensures ∙ rw c.lines_to_crc.ensures (place_more first to_crc_line (first + to_crc_line) s id_place refl) in
    let next : c.skip-next.result ≡ place_of (step_of a.kind * (a.n + 1)) s =
    c.skip-next.ensures
    ∙ rw c.lines_behind_crc.ensures
    (place_more (first + to_crc_line) (step_of a.kind + 1 - crc_place a.kind) _ s crc_place_is (to_next a.n a.kind)) in
    let id : c.line_at-id_line.result ≡ line_at (identifier_line a.kind (config_number a.n)) s =
    c.line_at-id_line.ensures ∙ rw (c.identifier_line.ensures, id_place, to_id a.n a.kind) in
    let crc : c.line_at-crc_line.result ≡ line_at (crc_line a.kind (config_number a.n)) s =
    c.line_at-crc_line.ensures ∙ rw (c.crc_line.ensures, crc_place_is, to_crc a.n a.kind) in
    let on : off_at a.kind s a.n ≡ false = rw (← id, ← crc) (sym c.off_spot.ensures ∙ c.if-off_spot.false) in
    rw on (same_marked
    (ap (λ (x : ConfigId). set a.spots.ids a.n x) (c.id_of.ensures ∙ ap id_of id))
    (ap (λ (x : ℕ). set a.spots.crcs a.n x) (c.crc_of.ensures ∙ ap crc_of crc))
    next)
