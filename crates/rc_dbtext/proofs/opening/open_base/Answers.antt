use Rattle.std.proofs.Common.{Some, inl, refl}
use Rattle.rc_streams.specs.Noting.{HasFailed, inner_of}
use Rattle.rc_model.proofs.Results.{no_value}
use Rattle.rc_dbtext.proofs.OpeningLemmas.{base_handed, base_opens, input_handed}
use Rattle.rc_dbtext.proofs.OpeningLemmas.{read_handed, read_sound}
use Rattle.rc_dbtext.proofs.opening.open_base.Goals as goal

pub returns-in_err-db-clause-fault : goal.returns-in_err-db-clause-fault
returns-in_err-db-clause-fault g c =
    base_handed c.from_residual.result c.args.base.now
    (g.R.Read.remaining (inner_of c.args.reader.now)) (HasFailed c.args.reader.now)
    c.in_err-db.field-0.0 c.in_err-db.ensures.fault c.from_residual.ensures.1

pub returns-in_err-db-clause-opened : goal.returns-in_err-db-clause-opened
returns-in_err-db-clause-opened g c = no_value _ _ _ c.from_residual.ensures.1

pub returns-in_err-db-clause-first : goal.returns-in_err-db-clause-first
returns-in_err-db-clause-first g c = λ wrong. refl

pub returns-in_err-db-clause-told : goal.returns-in_err-db-clause-told
returns-in_err-db-clause-told g c failed = inl failed

pub returns-in_err-input-clause-opened : goal.returns-in_err-input-clause-opened
returns-in_err-input-clause-opened g c = no_value _ _ _ c.from_residual-in_err-input.ensures.1

pub returns-in_err-input-clause-fault : goal.returns-in_err-input-clause-fault
returns-in_err-input-clause-fault g c =
    let right = c.in_ok-db.ensures.spelled in
    input_handed c.from_residual-in_err-input.result (Some c.args.base.now)
    (g.R.Read.remaining (inner_of c.args.reader.now))
    (g.R.Read.remaining (inner_of c.whole_input.new.reader)) (HasFailed c.whole_input.new.reader)
    c.in_err-input.field-0.0 (λ wrong. wrong c.in_ok-db.db right.0 right.1 right.2)
    c.in_err-input.ensures.fault c.from_residual-in_err-input.ensures.1

pub returns-in_err-input-clause-first : goal.returns-in_err-input-clause-first
returns-in_err-input-clause-first g c wrong =
    let right = c.in_ok-db.ensures.spelled in absurd (wrong c.in_ok-db.db right.0 right.1 right.2)

pub returns-in_err-input-clause-told : goal.returns-in_err-input-clause-told
returns-in_err-input-clause-told g c failed =
    read_handed _ _ c.from_residual-in_err-input.ensures.1 (c.in_err-input.ensures.told failed)

pub returns-in_err-input-clause-taken : goal.returns-in_err-input-clause-taken
returns-in_err-input-clause-taken g c = c.whole_input.ensures.taken

pub returns-clause-opened : goal.returns-clause-opened
returns-clause-opened g c =
    base_opens _ _ c.in_ok-db.db c.args.base.now c.in_ok-input.input.items
    c.in_ok-db.ensures.spelled c.in_ok-input.ensures.whole

pub returns-clause-fault : goal.returns-clause-fault
returns-clause-fault g c = tt

pub returns-clause-first : goal.returns-clause-first
returns-clause-first g c wrong =
    let right = c.in_ok-db.ensures.spelled in absurd (wrong c.in_ok-db.db right.0 right.1 right.2)

pub returns-clause-told : goal.returns-clause-told
returns-clause-told g c failed = read_sound _ _ (c.in_ok-input.ensures.told failed)

pub returns-clause-taken : goal.returns-clause-taken
returns-clause-taken g c = c.whole_input.ensures.taken
