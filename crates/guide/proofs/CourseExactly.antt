-- The guide goes as its course says, for any replies, and in no other way. Assumes nothing.
use mathlib.Core.List.{List}
use Prim.Native.Nat.{ℕ, ◌≤◌}
use Rattle.summary.specs.declared.Summary.{Summary}
use Rattle.guide.specs.Terms.{Terms}
use Rattle.guide.specs.Plan.{Reply}
use Rattle.guide.specs.Course.{CourseExactly}
use Rattle.guide.proofs.CourseIsGuide.{course_so}
use Rattle.guide.proofs.SomeCourse.{some_course}

pub course_exactly : (T : Terms) (file : Summary) (text : List ℕ) → 1 ≤ T.limit → file.configs ≤ 8 → (rs : List Reply) → CourseExactly T file text rs
course_exactly T file text some few rs =
    let a = some_course T file text some few rs in
    let g = course_so T file text few rs a.2 in
    record {
      goes = rw (g.tells, g.asks) at a.2;
      only = λ x qs c. let h = course_so T file text few rs c in (h.tells, h.asks);
    }
