-- An update first takes back what was cut short. Whether there is such a thing is tested before, on
-- the history that the store holds then, so each clause joins that test to what `taken_back` left.
use Rattle.rc_historytext.specs.Travelling.{GoesOn}
use Rattle.std.proofs.Common.{false}
use Rattle.rc_cli.specs.Storing.{store_of}
use Rattle.rc_launch.specs.Loading.{NamesFile}
use Rattle.rc_launch.proofs.StepLemmas.{stops_taking_back, taken_by}
use Rattle.rc_launch.proofs.two_steps.all_taken_back.Goals as goal

pub returns-clause-taken : goal.returns-clause-taken
returns-clause-taken g c =
    taken_by c.taken_back.result c.is_cut_in-is_cut.result
    (NamesFile c.args.execution.now.opened.now.loaded) (GoesOn false)
    (store_of c.args.devices.now.outputs.keeper) (store_of c.taken_back.new.devices.outputs.keeper)
    c.taken_back.ensures.cut c.is_cut_in-is_cut.ensures.goes c.taken_back.ensures.taken

pub returns-clause-stops : goal.returns-clause-stops
returns-clause-stops g c =
    stops_taking_back c.is_cut_in-is_cut.result (NamesFile c.args.execution.now.opened.now.loaded)
    (GoesOn false) (store_of c.args.devices.now.outputs.keeper)
    (store_of c.taken_back.new.devices.outputs.keeper) c.is_cut_in-is_cut.ensures.goes
    c.taken_back.result c.taken_back.ensures.fault c.taken_back.ensures.tried
    c.taken_back.ensures.halted c.taken_back.ensures.refused
