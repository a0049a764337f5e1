-- The run of digits is cut off, and what follows it decides. Assumes nothing.
use Rattle.std.proofs.Common.{◌≡◌, ℕ, ◌+◌, ◌-◌, ◌≤◌, ◌<◌, ◌∙◌, sym, ap, arith, rules, List, length, take, drop, length-drop, Some, None, Err}
use lib.Seq.{length-take-le}
use Rattle.line.specs.Digits.{digit_run, digit_by}
use Rattle.line.specs.Places.{fault_at}
use Rattle.line.specs.Lent.{by_ending}
use Rattle.line.specs.declared.Fault.TheVariants.{Char}
use Rattle.line.proofs.LineParts.{rest_of, run-le}
use Rattle.line.proofs.LentIsRight.{lent_here}
use Rattle.line.proofs.reader.Reader.searched.Goals as goal

-- the run of digits from the place on, which lies within the text
module _ (digits s : List ℕ) (at r : ℕ) (h : at < length s) (e : r ≡ digit_run (digit_by digits) (take (length s - at) (drop at s))) where
  run : r ≡ digit_run (digit_by digits) (drop at s)
  run = e ∙ ap (digit_run (digit_by digits)) (rest_of at s)

  within : at + r ≤ length s
  within = omega (arith, run, run-le (digit_by digits) (drop at s), length-drop at s, h)

pub overflow_add-end : goal.overflow_add-end
overflow_add-end c =
    let k = within _ _ _ _ c.requires c.run_of.ensures in
    search rules

pub overflow_add-end-in-None : goal.overflow_add-end-in-None
overflow_add-end-in-None c =
    let k = within _ _ _ _ c.requires c.run_of.ensures in
    search rules

pub slice_bounds-read_digits-end : goal.slice_bounds-read_digits-end
slice_bounds-read_digits-end c =
    let k = within _ _ _ _ c.requires c.run_of.ensures in
    search rules

pub end_at-requires : goal.end_at-requires
end_at-requires c = within _ _ _ _ c.requires c.run_of.ensures

pub returns-in-None : goal.returns-in-None
unfolding by_ending
returns-in-None c =
    let a = c.args in
    let e = a.at + c.run_of.result in
    let rest = drop a.at a.s.now in
    let k = within _ _ _ _ c.requires c.run_of.ensures in
    let size : length (take (e - a.at) rest) ≡ e - a.at = length-take-le (e - a.at) rest (omega (arith, k, length-drop a.at a.s.now)) in
    ap Err (c.fault_at.ensures ∙ ap (λ (m : ℕ). fault_at Char (m + 1)) (sym size))
    ∙ sym (lent_here a.self.digits.now a.self.table.now a.n a.at a.s.now c.requires e
    (ap (λ (m : ℕ). a.at + m) (run _ _ _ _ c.requires c.run_of.ensures)) None (sym c.end_at.ensures ∙ c.in-None.is))

pub returns-in-Some : goal.returns-in-Some
unfolding by_ending
returns-in-Some c =
    let a = c.args in
    let e = a.at + c.run_of.result in
    c.next_by.ensures ∙ rw c.read_digits.ensures (sym (lent_here a.self.digits.now a.self.table.now a.n a.at a.s.now c.requires e
    (ap (λ (m : ℕ). a.at + m) (run _ _ _ _ c.requires c.run_of.ensures)) (Some _) (sym c.end_at.ensures ∙ c.in-Some.is)))
