-- The lines of a command of several steps, such as an update or a restart.
use Rattle.std.specs.Prelude.{◌≡◌, ℕ, Bool, List, [], Option, Result, Ok, Err, false, true}
use Rattle.rc_model.specs.Plan.{Ask}
use Rattle.rc_model.specs.declared.Mode.{Mode}
use Rattle.rc_model.specs.declared.Mode.TheVariants.{DownAll, Up}
use Rattle.rc_model.specs.Session.{Change}
use Rattle.rc_select.specs.Ask.{plain_ask}
use Rattle.rc_script.specs.Says.{Saying, SaysDry, SaysStep}
use Rattle.rc_serve.specs.declared.ending.Ending.{Ending}
use Rattle.rc_serve.specs.declared.ending.Ending.TheVariants.{Done, Refused, Hindered}
use Rattle.rc_serve.specs.declared.fault.ServeFault.{ServeFault}
use Rattle.rc_serve.specs.declared.fault.ServeFault.TheVariants.{Memory}
use Rattle.rc_args.specs.OnceAsked.{OnceSaying, Said}

-- what the change of these names asks: the greatest limit, and nothing beyond the names
abbrev pub step_ask : Mode → List (List ℕ) → Ask
step_ask mode names = plain_ask mode names 4294967295

-- the change of these names, or where it is only shown its plan
abbrev pub step_by : (dry : Bool) → Ask → Saying
step_by true ask = SaysDry ask
step_by false ask = SaysStep (Change ask [])

-- the first step lowers these names with all that needs them, and the second one raises those
-- names with all that they need
abbrev pub lowering : (dry : Bool) → List (List ℕ) → OnceSaying
lowering dry names = Said (step_by dry (step_ask DownAll names))

abbrev pub raising : (dry : Bool) → List (List ℕ) → OnceSaying
raising dry names = Said (step_by dry (step_ask Up names))

-- how two steps end of which the first is done
abbrev pub ending_behind : Ending → Ending
ending_behind Done = Done
ending_behind Refused = Hindered
ending_behind Hindered = Hindered

-- what two steps come to whose second one comes to this, where an ending stands for another
abbrev pub ended_by : (Ending → Ending) → Result Ending ServeFault → Result Ending ServeFault
ended_by for (Ok ending) = Ok (for ending)
ended_by for (Err fault) = Err fault

-- out of memory before anything is done
abbrev pub IsShort : Result Ending ServeFault → (was is written gained : Option (List ℕ)) → Type 0
IsShort result was is written gained =
    (result ≡ Err Memory) × (gained ≡ written) × (is ≡ was)
