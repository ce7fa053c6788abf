use Rattle.rc_graph.proofs.RowLemmas.{row_is, row_known}
use Rattle.rc_graph.proofs.closure.add_list.Goals as goal

pub add_all-requires : goal.add_all-requires
add_all-requires c =
    row_known _ _ _ _
    (row_is c.args.lists.now c.args.service c.index-lists-service.result c.as_slice.result.now
    c.requires.service c.index-lists-service.is c.as_slice.ensures) c.requires.known
    c.requires.bound
