-- When bundles have no graph, because they hold one another in a cycle.
use Rattle.std.specs.Prelude.{◌≡◌, ℕ, List}
use Rattle.rc_compile.specs.declared.members.graph.CycleFault.{CycleFault}
use Rattle.rc_compile.specs.declared.members.graph.CycleFault.TheVariants.{Cycle, Memory}
use Rattle.rc_compile.specs.Along.{IsShownCycle}

-- when bundles have no graph: some are shown that make a cycle
abbrev pub IsCycleFault : (List ℕ → List ℕ → Type 0) → CycleFault → Type 0
IsCycleFault R (Cycle names) = IsShownCycle R names.items
IsCycleFault R Memory = Unit {0}

-- the fault shows these names, if any
abbrev pub IsShownBy : List (List ℕ) → CycleFault → Type 0
IsShownBy names (Cycle shown) = shown.items ≡ names
IsShownBy names Memory = Unit {0}
