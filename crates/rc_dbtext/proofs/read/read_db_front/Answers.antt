use Rattle.std.proofs.Common.{◌≡◌, ◌++◌, arith}
use Rattle.rc_dbtext.specs.Spelling.{spelling}
use Rattle.rc_dbtext.proofs.Reading.{front_fault, spelled_front, spelled_length}
use Rattle.rc_dbtext.proofs.read.read_db_front.Goals as goal

pub returns-in-Ok-db_of-clause-ok : goal.returns-in-Ok-db_of-clause-ok
returns-in-Ok-db_of-clause-ok c =
    let begins : c.args.bytes.now ≡ spelling c.in-Ok-db_of.db ++ c.in-Ok.read.1.now =
    spelled_front c.in-Ok-db_of.db c.in-Ok.read.0 c.args.bytes.now c.in-Ok.read.1.now
    c.in-Ok-db_of.ensures.ok.1 c.in-Ok.ensures.ok.1 in (
      c.in-Ok-db_of.ensures.ok.0,
      omega (arith, spelled_length c.in-Ok-db_of.db c.args.bytes.now c.in-Ok.read.1.now begins),
      (c.in-Ok.read.1.now, begins),
    )

pub returns-clause-fault : goal.returns-clause-fault
returns-clause-fault c =
    front_fault c.args.bytes.now c.in-Ok.read.1.now c.in-Ok.read.0 c.in-Err-db_of.fault
    c.in-Ok.ensures.ok c.in-Err-db_of.ensures.fault
