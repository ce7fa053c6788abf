use Rattle.std.proofs.Common.{take}
use Rattle.std.specs.List.{AllZip}
use Rattle.rc_dbtext.specs.Parts.{IsServiceOf}
use Rattle.rc_dbtext.proofs.build.services_of.Given as goal

-- the services so far say what the text gives of them
abbrev pub invariant-loop-form : goal.invariant-loop-form
invariant-loop-form l = AllZip (IsServiceOf l.names) (take l.form-index l.forms) l.services.items
