use Rattle.std.proofs.Common.{ℕ, List, None, inl, refl, subst}
use Rattle.rc_dbtext.specs.TextFaults.{IsFrontFault}
use Rattle.rc_streams.specs.Noting.{HasFailed, inner_of}
use Rattle.rc_model.proofs.Results.{no_value}
use Rattle.rc_dbtext.proofs.OpeningLemmas.{front_opens, input_handed, read_handed}
use Rattle.rc_dbtext.proofs.OpeningLemmas.{read_sound}
use Rattle.rc_dbtext.proofs.opening.open_front.Goals as goal

pub returns-in-Err-clause-fault : goal.returns-in-Err-clause-fault
returns-in-Err-clause-fault g c = (
  c.in_ok-all.all.items,
  c.in_ok-all.ensures.whole,
  subst (λ (bytes : List ℕ). IsFrontFault bytes c.in-Err.wrong) c.deref.ensures.value
      c.in-Err.ensures.fault,
  λ other. inl refl,
)

pub returns-in_err-all-clause-opened : goal.returns-in_err-all-clause-opened
returns-in_err-all-clause-opened g c = no_value _ _ _ c.from_residual.ensures.1

pub returns-in_err-all-clause-fault : goal.returns-in_err-all-clause-fault
returns-in_err-all-clause-fault g c =
    input_handed c.from_residual.result None (g.R.Read.remaining (inner_of c.args.reader.now))
    (g.R.Read.remaining (inner_of c.whole_input.new.reader)) (HasFailed c.whole_input.new.reader)
    c.in_err-all.field-0.0 (λ wrong. wrong) c.in_err-all.ensures.fault c.from_residual.ensures.1

pub returns-in_err-all-clause-told : goal.returns-in_err-all-clause-told
returns-in_err-all-clause-told g c failed =
    read_handed _ _ c.from_residual.ensures.1 (c.in_err-all.ensures.told failed)

pub returns-in_err-all-clause-taken : goal.returns-in_err-all-clause-taken
returns-in_err-all-clause-taken g c = c.whole_input.ensures.taken

pub returns-in-Ok-clause-opened : goal.returns-in-Ok-clause-opened
returns-in-Ok-clause-opened g c =
    let read = c.in-Ok.ensures.ok in
    front_opens _ _ c.in-Ok.db c.deref.result.now c.in_ok-all.all.items read.2.0 c.in-Ok.start
    c.deref.ensures.value c.names-names.ensures.database read.0 read.1 read.2.1
    c.in_ok-all.ensures.whole

pub returns-in-Ok-clause-fault : goal.returns-in-Ok-clause-fault
returns-in-Ok-clause-fault g c = tt

pub returns-in-Ok-clause-told : goal.returns-in-Ok-clause-told
returns-in-Ok-clause-told g c failed = read_sound _ _ (c.in_ok-all.ensures.told failed)

pub returns-in-Ok-clause-taken : goal.returns-in-Ok-clause-taken
returns-in-Ok-clause-taken g c = c.whole_input.ensures.taken

pub returns-in-Err-clause-opened : goal.returns-in-Err-clause-opened
returns-in-Err-clause-opened g c = tt

pub returns-in-Err-clause-told : goal.returns-in-Err-clause-told
returns-in-Err-clause-told g c failed = read_sound _ _ (c.in_ok-all.ensures.told failed)

pub returns-in-Err-clause-taken : goal.returns-in-Err-clause-taken
returns-in-Err-clause-taken g c = c.whole_input.ensures.taken
