-- Courses of the same needs, plan and deadline are equal.
use Rattle.std.proofs.Common.{◌≡◌, ℕ, List, Option, sym, subst}
use Rattle.rc_model.specs.Plan.{PlanSets}
use Rattle.rc_model.specs.Run.{course_of}
use Rattle.rc_model.specs.Beside.{IsCourse}

-- a course of the same needs, plan and deadline is one
pub shown : (needs other : List (List ℕ)) (plan shown_plan : PlanSets)
    (deadline shown_deadline : Option ℕ) → IsCourse (course_of needs plan deadline)
    → other ≡ needs → shown_plan ≡ plan → shown_deadline ≡ deadline
    → IsCourse (course_of other shown_plan shown_deadline)
shown needs other plan shown_plan deadline shown_deadline course same_needs same_plan
    same_deadline =
    subst (λ n. IsCourse (course_of n shown_plan shown_deadline)) (sym same_needs)
    (subst (λ p. IsCourse (course_of needs p shown_deadline)) (sym same_plan)
    (subst (λ d. IsCourse (course_of needs plan d)) (sym same_deadline) course))
