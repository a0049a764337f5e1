-- By the tests in their order. Assumes nothing.
use Rattle.std.proofs.Common.{◌≡◌, ◌∙◌, ℕ, ◌+◌, ◌≤◌, Bool, List, Option, arith, sym, ap, drop}
use borrow.Author.Tests.{lt-ltb, le-ltb}
use Rattle.counts.specs.declared.Kind.{Kind}
use Rattle.counts.specs.Counts.{line_number, kind_of}
use Rattle.cuts.specs.Lines.{lines_of, place_of}
use Rattle.line.specs.declared.Line.{Line}
use Rattle.line.specs.Reading.{byte, next_line}
use Rattle.image.specs.declared.Facts.{Facts}
use Rattle.image.specs.Says.{revision_says}
use Rattle.image.specs.Tests.{known_device}
use Rattle.image.specs.Private.Walk.{line_in, line_at}
use Rattle.image.specs.Private.Rest.{AllGood, Counted}
use Rattle.image.proofs.SpotPlaces.{line_one, line_two, place_from}
use Rattle.image.proofs.RestOfTests.{few_stops, few_passes, revision_is, revision_stops, device_stops, device_passes, counted, none_stops, count_passes}
use Rattle.image.proofs.order.counted.Goals as goal

module _ (s : List ℕ) {f : Facts} (good : AllGood s f) where
  -- what line 2 is found to say is what the file says
  found : (at : ℕ) (second : Line) (r : Option Kind) {o : Option Kind} → at ≡ 0 + place_of 1 (drop 0 s) →
      second ≡ line_in (next_line (line_number 2) at s) → r ≡ kind_of (byte second 0) → r ≡ o → revision_says (lines_of s) ≡ o
  found at second r p q m k =
      let is : second ≡ line_at (line_number 2) s = q ∙ rw (p, place_from 1 s) (line_two s) in
      sym (revision_is s good) ∙ ap (λ (l : Line). kind_of (byte l 0)) (sym is) ∙ sym m ∙ k

  -- and so is what line 1 is found to be
  known : (first : Line) (r : Bool) {b : Bool} → first ≡ line_in (next_line (line_number 1) 0 s) → r ≡ known_device first → r ≡ b →
      known_device (line_at (line_number 1) s) ≡ b
  known first r p q e = ap known_device (sym (p ∙ line_one s)) ∙ sym q ∙ e

pub returns-then-facts-lt13 : goal.returns-then-facts-lt13
returns-then-facts-lt13 c = few_stops _ c.requires (lt-ltb _ _ c.if-facts-lt13.true)

pub returns-then-not-known_device : goal.returns-then-not-known_device
returns-then-not-known_device c =
    let s = c.args.s.now in
    let kind = found s c.requires _ _ _ c.skip.ensures c.line_at-second.ensures c.of_revision.ensures c.in-Some.is in
    let known = known s c.requires _ _ c.line_at.ensures c.known_device.ensures c.if-not-known_device.true in
    device_stops s c.requires kind known ∙ few_passes s c.requires (le-ltb _ _ c.if-facts-lt13.false)

pub returns-then-configs-eq0 : goal.returns-then-configs-eq0
returns-then-configs-eq0 c =
    let s = c.args.s.now in
    let kind = found s c.requires _ _ _ c.skip.ensures c.line_at-second.ensures c.of_revision.ensures c.in-Some.is in
    let known = known s c.requires _ _ c.line_at.ensures c.known_device.ensures c.if-not-known_device.false in
    none_stops s (counted s c.requires kind) (sym c.configs-configs.ensures ∙ c.if-configs-eq0.true)
    ∙ device_passes s c.requires kind known ∙ few_passes s c.requires (le-ltb _ _ c.if-facts-lt13.false)

pub returns : goal.returns
returns c =
    let s = c.args.s.now in
    let kind = found s c.requires _ _ _ c.skip.ensures c.line_at-second.ensures c.of_revision.ensures c.in-Some.is in
    let known = known s c.requires _ _ c.line_at.ensures c.known_device.ensures c.if-not-known_device.false in
    let some : 1 ≤ c.configs-configs.result = omega (arith, c.if-configs-eq0.false) in
    let all : Counted s c.args.facts c.in-Some.kind c.configs-configs.result = rw c.configs-configs.ensures (counted s c.requires kind) in
    (all, some, count_passes s all some ∙ device_passes s c.requires kind known ∙ few_passes s c.requires (le-ltb _ _ c.if-facts-lt13.false))

pub returns-in_default : goal.returns-in_default
returns-in_default c =
    let s = c.args.s.now in
    let none = found s c.requires _ _ _ c.skip.ensures c.line_at-second.ensures c.of_revision.ensures c.in_default.is in
    revision_stops s c.requires none ∙ few_passes s c.requires (le-ltb _ _ c.if-facts-lt13.false)
