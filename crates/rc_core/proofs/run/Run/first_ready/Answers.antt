use Rattle.std.proofs.Common.{ℕ, List, Contains, Option, Some, None, IfSome, IfNone, subst}
use Rattle.rc_model.specs.Run.{CanMove}
use Rattle.rc_model.proofs.Members.{none_contained}
use Rattle.rc_core.specs.Settled.{RunSoFar}
use Rattle.rc_core.proofs.Readying.{ready_moves}
use Rattle.rc_core.proofs.run.Run.first_ready.Goals as goal

-- what follows of the value, and of its absence
some_weaker : (o : Option ℕ) (P Q : ℕ → Type 0) → ((x : ℕ) → P x → Q x) → IfSome o P → IfSome o Q
some_weaker None P Q more holds = tt
some_weaker (Some x) P Q more holds = more x holds

none_weaker : (o : Option ℕ) (P Q : Type 0) → (P → Q) → IfNone o P → IfNone o Q
none_weaker None P Q more holds = more holds
none_weaker (Some x) P Q more holds = tt

pub returns-clause-some : goal.returns-clause-some
returns-clause-some c =
    subst (λ (r : RunSoFar). IfSome c.first.result (λ s. CanMove r.course r.events s))
    c.self.view_is
    (some_weaker c.first.result _ _
    (λ s there.
    (ready_moves _ _ _ _ c.self.invariant.0.course c.self.invariant.0.run c.self.invariant.3
    s).0 there) c.first.ensures.some)

pub returns-clause-none : goal.returns-clause-none
returns-clause-none c =
    subst (λ (r : RunSoFar). IfNone c.first.result ((s : ℕ) → CanMove r.course r.events s → ⊥))
    c.self.view_is
    (none_weaker c.first.result _ _
    (λ empty s move.
    none_contained s
    (subst (λ (queue : List ℕ). Contains queue s) empty
    ((ready_moves _ _ _ _ c.self.invariant.0.course c.self.invariant.0.run c.self.invariant.3
    s).1 move))) c.first.ensures.none)
