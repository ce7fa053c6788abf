use Rattle.std.proofs.Common.{◌≡◌, ◌<◌, Some, inl, length, refl, slice_get, subst, sym}
use Rattle.std.proofs.lemmas.Option.{slice_get_read}
use Rattle.std.proofs.lemmas.Result.{err_from_is_err_and}
use Rattle.rc_historytext.specs.Text.{HistoryText}
use Rattle.rc_historytext.proofs.Failing.{at_place_of}
use Rattle.rc_historytext.proofs.keeping.put.Goals as goal

pub returns-then-not-is_short-clause-fault : goal.returns-then-not-is_short-clause-fault
returns-then-not-is_short-clause-fault c = λ g there. inl tt

pub returns-in_err-marks-clause-fault : goal.returns-in_err-marks-clause-fault
returns-in_err-marks-clause-fault c =
    let p = err_from_is_err_and c.from_residual.result c.from_residual.ensures.1 in
    let g = c.index-generation.result.now in
    let low : c.form.inside.present < length c.form.inside.generations.items =
    subst (λ (t : HistoryText). t.present < length t.generations) (sym c.form.view_is)
    c.requires.present in
    let here =
    subst (λ (t : HistoryText). slice_get t.generations t.present ≡ Some g) c.form.view_is
    (slice_get_read c.form.inside.generations.items _ c.form.inside.present g refl low
    c.index-generation.ensures) in
    rw (p.1, p.2)
    (λ h there. at_place_of c.args.form.now g h c.args.session.now c.in_err-marks.field-0.0 here
    there c.in_err-marks.ensures.fault)
