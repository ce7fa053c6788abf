use Rattle.std.proofs.Common.{◌∙◌, []}
use Rattle.std.proofs.lemmas.List.{append-nil}
use Rattle.rc_dbtext.specs.Spelling.{spelling}
use Rattle.rc_dbtext.proofs.Reading.{spelled_front, whole_fault}
use Rattle.rc_dbtext.proofs.read.read_db.Goals as goal

pub returns-in-Ok-db_of-clause-ok : goal.returns-in-Ok-db_of-clause-ok
returns-in-Ok-db_of-clause-ok c = (
  c.in-Ok-db_of.ensures.ok.0,
  spelled_front c.in-Ok-db_of.db c.in-Ok.form c.args.bytes.now [] c.in-Ok-db_of.ensures.ok.1
      c.in-Ok.ensures.ok.1 ∙ append-nil (spelling c.in-Ok-db_of.db),
)

pub returns-clause-fault : goal.returns-clause-fault
returns-clause-fault c =
    whole_fault c.args.bytes.now c.in-Ok.form c.in-Err-db_of.fault c.in-Ok.ensures.ok
    c.in-Err-db_of.ensures.fault
