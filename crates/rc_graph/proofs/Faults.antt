-- What a fault of a draft is, and what is none.
use Rattle.std.proofs.Common.{◌≡◌, ℕ, List, Result, Ok, Err}
use Rattle.rc_graph.specs.declared.draft.GraphFault.{GraphFault}
use Rattle.rc_graph.specs.declared.draft.GraphFault.TheVariants.{Cycle}

-- a graph is no fault
pub no_fault : {T E : Type 0} {P : Type 0} (graph : T) (fault : E) → Ok graph ≡ Err fault → P
no_fault graph fault is = absurd (cc)

-- a fault tells one cycle
pub same_cycle : {T : Type 0} (told : Result T GraphFault) (ring other : List ℕ)
    → told ≡ Err (Cycle ring) → told ≡ Err (Cycle other) → ring ≡ other
same_cycle told ring other is other_is = cc
