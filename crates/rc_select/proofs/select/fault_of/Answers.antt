use Rattle.std.proofs.Common.{◌≡◌, ℕ, List, All, refl}
use Rattle.rc_model.specs.Database.{Bundles, IsKnown}
use Rattle.rc_db.specs.QueryFaults.{IsNamesFault}
use Rattle.rc_db.specs.declared.fault.QueryFault.{QueryFault}
use Rattle.rc_db.specs.declared.fault.QueryFault.TheVariants.{Unknown, NotAtomic, NotBundle}
use Rattle.rc_db.specs.declared.fault.QueryFault.TheVariants.{NotLongrun, NotOneshot, Memory}
use Rattle.rc_select.proofs.select.fault_of.Goals as goal

-- where words are refused and none is unknown, memory ran short
memory_left : (names : List (List ℕ)) (table : Bundles) (words : List (List ℕ)) (fault : QueryFault)
    → ((place : ℕ) → fault ≡ Unknown place → ⊥) → IsNamesFault names table words fault
    → All (IsKnown names table) words
memory_left names table words (Unknown place) other refused = absurd (other place refl)
memory_left names table words NotAtomic other refused = absurd refused
memory_left names table words NotBundle other refused = absurd refused
memory_left names table words NotLongrun other refused = absurd refused
memory_left names table words NotOneshot other refused = absurd refused
memory_left names table words Memory other refused = refused

pub returns-in_default : goal.returns-in_default
returns-in_default c names table words refused =
    memory_left names table words c.args.fault c.in_default.not-Unknown refused
