-- What the guide takes from a file that meets the document is what the bytes of its lines hold: target, write lines and configurations.
-- Assumes nothing.
use mathlib.Core.Path.{◌≡◌, refl, ap, ◌∙◌}
use mathlib.Core.List.{List, []}
use Prim.Native.Nat.{ℕ, zero, suc, ◌+◌, ◌-◌, ◌≤◌, ◌<◌}
use native.Mathlib.Omega.{arith}
use lib.ListN.{length, get_or, drop, length-drop}
use lib.Seq.{get_or-drop}
use Rattle.counts.specs.declared.ConfigId.{ConfigId}
use Rattle.line.specs.LineForm.{LineForm}
use Rattle.line.specs.Reading.{line_of}
use Rattle.line.proofs.Spelling.{spells_values}
use Rattle.summary.specs.declared.Summary.{Summary}
use Rattle.image.specs.Says.{word}
use Rattle.image.specs.Check.{check_of}
use Rattle.image.specs.Meets.{data_in, crc_bytes, id_digit, Spelled, none, line, Meets}
use Rattle.image.proofs.MeetsPass.{spelled_of}
use Rattle.image.proofs.SummarySays.{summary_says}
use Rattle.guide.specs.Requests.{line_request}
use Rattle.guide.specs.Guide.{target_of, id_in, crc_in, lines_as, write_lines_of}
use Rattle.guide.specs.Course.{line_requests, configs_in, content_of}
use Rattle.guide.specs.Wire.{Wire, RightAt}
use Rattle.guide.proofs.LineBytes.{line_out_lem}
use Rattle.demands.specs.Headline.{lines_out, target_in}
use Rattle.demands.specs.Demands.{configs_by, content_in}

pub spelled-drop : (k : ℕ) {ts vs : List (List ℕ)} → Spelled ts vs → Spelled (drop k ts) (drop k vs)
spelled-drop zero s = s
spelled-drop (suc k) none = none
spelled-drop (suc k) (line t v ts vs x s) = spelled-drop k s

-- lines from number i on go out as they are on the wire
lines_go : {address : ℕ} {W : Wire} → RightAt address W → (i : ℕ) → 5 ≤ i → {ts vs : List (List ℕ)} → Spelled ts vs
    → ((j : ℕ) → j < length vs → LineForm (i + j) (get_or vs j [])) → line_requests address (lines_as ts) ≡ lines_out W vs
unfolding lines_as line_requests lines_out
lines_go right i h none f = refl
lines_go {address} {W} right i h (line t v ts vs x s) f =
    let start : i + 0 ≡ i = omega arith in
    let here : line_request address (line_of v) ≡ W.line v = line_out_lem address W right i v h (rw start at (f 0 (omega arith))) in
    let rest = lines_go right (i + 1) (omega arith) s (λ j g. let e : i + 1 + j ≡ i + suc j = omega arith in rw e (f (suc j) (omega arith))) in
    rw (spells_values x, here, rest)

module _ {text : List ℕ} (m : Meets text) where
  abbrev file : Summary
  file = (check_of text).summary

  -- write line j, counted from 0, is line 5 + j
  pub formed : (j : ℕ) → j < length (drop 4 m.values) → LineForm (5 + j) (get_or (drop 4 m.values) j [])
  formed j h =
      let e : 5 + j - 1 ≡ 4 + j = omega arith in
      let long = length-drop 4 m.values in
      rw (get_or-drop 4 m.values j []) (rw e at (m.meets.form (5 + j) (omega arith) (omega arith)))

  pub lines_are_lem : {address : ℕ} {W : Wire} → RightAt address W → line_requests address (write_lines_of text) ≡ lines_out W (drop 4 m.values)
  unfolding write_lines_of
  lines_are_lem right = lines_go right 5 (omega arith) (spelled-drop 4 (spelled_of m)) formed

  pub target_is : target_of file ≡ target_in m
  target_is = let s = summary_says m in rw (s.kind, s.identity, s.configs)

  id_is : (N : ℕ) → N < m.meets.laid.configs → id_in file N ≡ id_digit m.meets.laid N
  unfolding id_in
  id_is N h = ap (λ (i : ConfigId). i.0) ((summary_says m).ids N h)

  pub crc_is : (N : ℕ) → N < m.meets.laid.configs
      → let c = crc_bytes m.meets.laid N in crc_in file N ≡ word (data_in 3 c) (data_in 2 c) (data_in 1 c) (data_in 0 c)
  unfolding crc_in
  crc_is N h = (summary_says m).crcs N h

  configs_from : (left N : ℕ) → N + left ≤ m.meets.laid.configs → configs_in file left N ≡ configs_by m left N
  unfolding configs_in configs_by
  configs_from zero N h = refl
  configs_from (suc left) N h = rw (id_is N (omega arith), crc_is N (omega arith), configs_from left (N + 1) (omega arith))

  configs_are : configs_in file file.configs 0 ≡ configs_by m m.meets.laid.configs 0
  configs_are = ap (λ (k : ℕ). configs_in file k 0) (summary_says m).configs ∙ configs_from m.meets.laid.configs 0 (omega arith)

  pub content_is : {address : ℕ} {W : Wire} → RightAt address W → content_of address file text ≡ content_in W m
  content_is right = rw (target_is, lines_are_lem right, configs_are)
