use Rattle.rc_bundle.proofs.commands.added.Goals as goal

pub returns-clause-edit : goal.returns-clause-edit
returns-clause-edit c = record {
  table = _;
  is_table = c.in_ok-new.ensures.is_table;
  wanted = c.in_ok-new.ensures.table;
  made = c.in_ok-new.ensures.edit;
}
