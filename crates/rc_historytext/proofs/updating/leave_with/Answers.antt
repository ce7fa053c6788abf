use Rattle.std.proofs.Common.{◌≡◌, ◌∙◌, ◌<◌, Some, ap, inl, length, refl, rules, slice_get, subst}
use Rattle.std.proofs.Common.{sym}
use Rattle.std.proofs.lemmas.Option.{slice_get_read}
use Rattle.std.proofs.lemmas.Result.{err_from_is_err_and}
use Rattle.rc_historytext.specs.Text.{GenerationText, HistoryText, IsHistoryText, history_text}
use Rattle.rc_historytext.specs.Moves.{with_session}
use Rattle.rc_historytext.specs.States.{IsSession}
use Rattle.rc_historytext.specs.Present.{IsAt}
use Rattle.rc_historytext.specs.Updating.{mark_of_cut}
use Rattle.rc_historytext.proofs.Marked.{left_marked}
use Rattle.rc_historytext.specs.CallFaults.{IsSessionFault}
use Rattle.rc_historytext.proofs.Failing.{stand_memory, stand_present}
use Rattle.rc_historytext.proofs.updating.leave_with.Goals as goal

pub returns-clause-ok : goal.returns-clause-ok
returns-clause-ok c =
    let inside : GenerationText = record {
      first_passed = c.generation.inside.first_passed;
      last_passed = c.generation.inside.last_passed;
      database = c.generation.inside.database.now;
      session = c.generation.inside.session.now;
      renames = c.generation.inside.renames.items;
    } in
    let form = c.in_ok-form.form in
    let read = c.in_ok-form.ensures.ok in
    let g = c.index-generation.result.now in
    let around = c.in-Ok.ensures.ok in
    let low : c.form.inside.present < length c.form.inside.generations.items =
    subst (λ (t : HistoryText). t.present < length t.generations) (sym c.form.view_is)
    read.0.present in
    let at : IsAt c.args.history.now form g = record {
      is = read.0;
      spelled = read.1;
      there =
          subst (λ (t : HistoryText). slice_get t.generations t.present ≡ Some g) c.form.view_is
          (slice_get_read c.form.inside.generations.items _ c.form.inside.present g refl low
          c.index-generation.ensures);
    } in
    let same : c.replace.new.self
    ≡ with_session form c.args.cut.now g.first_passed (mark_of_cut g around.0) =
    left_marked form c.args.cut.now inside g around.0 c.in-Ok.around.0 c.in-Ok.around.1
    c.mark_of_cut.result c.replace.new.self c.generation.view_is around.2 around.3
    c.mark_of_cut.ensures c.replace.ensures.put in (
      form,
      g,
      around.0,
      at,
      subst (λ (x : GenerationText). IsSession x.session around.0) c.generation.view_is around.1,
      subst IsHistoryText same (c.replace.ensures.text read.0 (search rules)),
      c.in_ok-text.ensures.ok ∙ ap history_text same,
    )

pub returns-then-not-is_short-clause-fault : goal.returns-then-not-is_short-clause-fault
returns-then-not-is_short-clause-fault c = inl tt

pub returns-in_err-form-clause-fault : goal.returns-in_err-form-clause-fault
returns-in_err-form-clause-fault c =
    let p = err_from_is_err_and c.from_residual.result c.from_residual.ensures.1 in
    rw (p.1, p.2)
    (inl c.in_err-form.ensures.fault)

pub returns-in-Err-clause-fault : goal.returns-in-Err-clause-fault
returns-in-Err-clause-fault c =
    let form = c.in_ok-form.form in
    let read = c.in_ok-form.ensures.ok in
    let g = c.index-generation.result.now in
    let low : c.form.inside.present < length c.form.inside.generations.items =
    subst (λ (t : HistoryText). t.present < length t.generations) (sym c.form.view_is)
    read.0.present in
    let here =
    subst (λ (t : HistoryText). slice_get t.generations t.present ≡ Some g) c.form.view_is
    (slice_get_read c.form.inside.generations.items _ c.form.inside.present g refl low
    c.index-generation.ensures) in
    stand_present c.args.history.now form g c.in-Err.fault
    (record { is = read.0; spelled = read.1; there = here })
    (subst (λ (x : GenerationText). IsSessionFault x.session c.in-Err.fault) c.generation.view_is
    c.in-Err.ensures.fault)

pub returns-in_err-text-clause-fault : goal.returns-in_err-text-clause-fault
returns-in_err-text-clause-fault c =
    let p =
    err_from_is_err_and c.from_residual-in_err-text.result c.from_residual-in_err-text.ensures.1 in
    rw (p.1, p.2)
    (stand_memory c.args.history.now c.in_err-text.field-0.0 c.in_err-text.ensures.fault)
