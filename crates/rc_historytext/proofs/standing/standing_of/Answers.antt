use Rattle.std.proofs.Common.{◌≡◌, ◌<◌, Some, inl, length, refl, slice_get, subst, sym}
use Rattle.std.proofs.lemmas.Option.{slice_get_read}
use Rattle.std.proofs.lemmas.Result.{err_from_is_err_and}
use Rattle.rc_historytext.specs.Text.{GenerationText, HistoryText}
use Rattle.rc_historytext.specs.CallFaults.{IsSessionFault}
use Rattle.rc_historytext.proofs.Failing.{stand_present}
use Rattle.rc_historytext.proofs.standing.standing_of.Goals as goal

pub returns-in_err-form-clause-fault : goal.returns-in_err-form-clause-fault
returns-in_err-form-clause-fault c =
    let p = err_from_is_err_and c.from_residual.result c.from_residual.ensures.1 in
    rw (p.1, p.2)
    (inl c.in_err-form.ensures.fault)

pub returns-in_err-before-clause-fault : goal.returns-in_err-before-clause-fault
returns-in_err-before-clause-fault c =
    let p = err_from_is_err_and c.from_residual-in_err-before.result
    c.from_residual-in_err-before.ensures.1 in
    let read = c.in_ok-form.ensures.ok in
    let fault = c.in_err-before.field-0.0 in
    let g = c.index-generation.result.now in
    let low : c.form.inside.present < length c.form.inside.generations.items =
    subst (λ (t : HistoryText). t.present < length t.generations) (sym c.form.view_is)
    read.0.present in
    let here =
    subst (λ (t : HistoryText). slice_get t.generations t.present ≡ Some g) c.form.view_is
    (slice_get_read c.form.inside.generations.items _ c.form.inside.present g refl low
    c.index-generation.ensures) in
    rw (p.1, p.2)
    (stand_present c.args.history.now c.in_ok-form.form g fault
    (record { is = read.0; spelled = read.1; there = here })
    (subst (λ (x : GenerationText). IsSessionFault x.session fault) c.generation.view_is
    c.in_err-before.ensures.fault))
