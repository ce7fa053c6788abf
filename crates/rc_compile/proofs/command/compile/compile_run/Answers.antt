-- The status and the output of `compile`, and the report of a fault. The search finds all but one
-- goal: that a device has failed if status 111 is reported, since the fault names which one.
use Rattle.rc_compile.proofs.CompileLemmas.{device_told}
use Rattle.rc_compile.proofs.command.compile.compile_run.Goals as goal

pub returns-in-Err-clause-failed : goal.returns-in-Err-clause-failed
returns-in-Err-clause-failed g c = λ told. device_told _ _ _ _ c.in-Err.fault _ _
    c.in-Err.ensures.fault c.in-Err.ensures.io (c.tell_trees.ensures.failed told)
