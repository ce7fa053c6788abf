-- What is said of the one command of a list holds of the list.
use Rattle.std.proofs.Common.{◌≡◌, ◌≢◌, ℕ, ◌≤◌, ◌<◌, List, [], ◌∷◌, length, get_or, arith}
use Rattle.std.proofs.Common.{Option, Some, None, Result, Ok, Err, IfNone, IfOk, IfSome}
use Rattle.std.proofs.Common.{ap, sym, inr}
use Rattle.rc_model.specs.Session.{Command, events_of}
use Rattle.rc_model.specs.Database.{Database}
use Rattle.rc_recovery.specs.RunLog.{AreNone, EntersOne, IsEnteredAs}
use Rattle.rc_recovery.specs.declared.texts.Recovered.{Recovered}
use Rattle.rc_recovery.specs.declared.texts.RecoverFault.{RecoverFault}

-- a list of one item is that item alone
pub single : {X : Type 0} (xs : List X) (x : X) → 1 ≤ length xs → length xs < 2
    → x ≡ get_or xs 0 x → xs ≡ x ∷ []
single [] x some few at = absurd (omega (arith, some))
single (y ∷ []) x some few at = ap (λ z. z ∷ []) (sym at)
single (y ∷ (z ∷ more)) x some few at = absurd (omega (arith, few))

-- what enters the one command enters the list
pub enters_single : (d : Database) (text : List ℕ) (commands : List Command) (command : Command)
    (result : Result (Option Recovered) RecoverFault) → commands ≡ command ∷ []
    → IfOk result (λ made. IfSome made (λ one. (events_of command ≢ [])
    × IsEnteredAs d text command one.text.items one.report.items))
    → IfOk result (λ made. IfSome made (λ one.
    EntersOne d text commands one.text.items one.report.items))
enters_single d text commands command (Ok (Some one)) is entered =
    (command, is, entered.0, entered.1)
enters_single d text commands command (Ok None) is entered = tt
enters_single d text commands command (Err fault) is entered = tt

-- where no event of the one command was logged, there is nothing to enter
pub none_in_single : (commands : List Command) (command : Command)
    (result : Result (Option Recovered) RecoverFault) → commands ≡ command ∷ []
    → IfOk result (λ made. IfNone made (events_of command ≡ []))
    → IfOk result (λ made. IfNone made (AreNone commands))
none_in_single commands command (Ok (Some one)) is nothing = tt
none_in_single commands command (Ok None) is nothing = inr (command, is, nothing)
none_in_single commands command (Err fault) is nothing = tt
