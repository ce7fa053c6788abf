-- What a call leaves of a tree.
use Rattle.std.specs.Prelude.{◌≡◌, ◌≤◌, ℕ, Option, Result, IfErr, OnOk}
use Rattle.rc_source.specs.declared.fault.Flaw.{Flaw}
use Rattle.rc_source.specs.declared.fault.Flaw.TheVariants.{Io}
use Rattle.rc_source.specs.Tree.{Source}
use Rattle.rc_source.specs.TreeFaults.{HasFailed}

-- the tree holds what it held, and its device fails where the call is refused for that
pub record IsAsked {X : Type 0} (result : Result X Flaw) (held after : Option Source)
    (failed now : ℕ) : Type 0 where
  pub io : IfErr result (λ flaw. flaw ≡ Io → HasFailed failed now)
  pub same : after ≡ held
  pub count : failed ≤ now
  pub quiet : OnOk result (now ≡ failed)
