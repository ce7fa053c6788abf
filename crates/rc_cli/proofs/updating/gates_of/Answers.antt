use Rattle.rc_args.specs.Making.{making_ask_of}
use Rattle.rc_cli.proofs.UpdateLemmas.{first_gateless, second_gateless}
use Rattle.rc_cli.proofs.updating.gates_of.Goals as goal

pub returns-in-Err-clause-fault : goal.returns-in-Err-clause-fault
returns-in-Err-clause-fault g c =
    first_gateless c.in-Err.fault c.args.old.now c.args.new.now
    (making_ask_of c.args.asked.now.making) c.in-Err.ensures.fault

pub returns-in-Err-gate_on-clause-fault : goal.returns-in-Err-gate_on-clause-fault
returns-in-Err-gate_on-clause-fault g c =
    second_gateless c.in-Err-gate_on.fault c.args.old.now c.args.new.now
    (making_ask_of c.args.asked.now.making) c.in-Ok.gate c.in-Ok.ensures.made
    c.in-Err-gate_on.ensures.fault
