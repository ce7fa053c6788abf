use Rattle.std.proofs.Common.{◌==◌, ◌++◌, ◌∙◌, ◌∷◌, [], sym, ap, subst, map, filter, take, get_or}
use Rattle.std.proofs.Common.{All}
use Rattle.std.specs.List.{slice_split}
use Rattle.std.proofs.lemmas.List.{take_all}
use Rattle.std.proofs.lemmas.List.Elements.{All-append, All-nil}
use Rattle.rc_model.specs.Names.{IsName}
use Rattle.rc_model.proofs.Results.{no_value}
use Rattle.rc_source.specs.Texts.{counts, trimmed_line}
use Rattle.rc_source.specs.declared.fault.Flaw.TheVariants.{Memory}
use Rattle.rc_source.proofs.Exits.{exit, exit_memory, no_success}
use Rattle.rc_source.proofs.Lines.{named, named_more, one_of_all}
use Rattle.rc_source.proofs.text.names_of.Goals as goal

pub returns-in_err-add_line-clause-fault : goal.returns-in_err-add_line-clause-fault
returns-in_err-add_line-clause-fault c =
    let told = c.in_err-add_line.ensures.fault in
    let items = c.deref-line-items.result.now in
    let lines = ap (map (λ line. line.now)) c.deref-line-items.ensures.value ∙ c.in_ok-lines.ensures
    ∙ ap (slice_split (λ byte. byte == 10)) c.as_bytes.ensures.value in
    exit c.from_residual-in_err-add_line.result c.in_err-add_line.field-0.0 _
    c.from_residual-in_err-add_line.ensures.1
    (λ no_memory. (
      (told no_memory).0,
      λ all. (told no_memory).1
          (one_of_all (λ line. line.now) IsName items c.loop-line.line-index _ c.loop-line-test.true
          (subst (λ l. All IsName (filter counts (map trimmed_line l))) (sym lines) all)),
    ))

pub loop-line-preserved : goal.loop-line-preserved
loop-line-preserved c =
    let items = c.deref-line-items.result.now in
    let i = c.loop-line.line-index in
    let more = named_more (λ line. line.now) items i (record { ref_ptr = (0, 0); now = [] })
    c.loop-line-test.true in (
      c.in_ok-add_line.ensures.names
          ∙ ap (λ ns. ns ++ named (λ line. line.now)
          (get_or items i (record { ref_ptr = (0, 0); now = [] }) ∷ [])) c.loop-line.invariant.0
          ∙ sym more,
      subst (All IsName) (sym more)
          (All-append IsName (named (λ line. line.now) (take i items)) _ c.loop-line.invariant.1
          c.in_ok-add_line.ensures.each),
    )

pub returns-in_err-lines-clause-names : goal.returns-in_err-lines-clause-names
returns-in_err-lines-clause-names c =
    no_value c.from_residual.result Memory _ c.from_residual.ensures.1

pub returns-in_err-lines-clause-each : goal.returns-in_err-lines-clause-each
returns-in_err-lines-clause-each c =
    no_success c.from_residual.result Memory _ c.from_residual.ensures.1

pub returns-in_err-lines-clause-fault : goal.returns-in_err-lines-clause-fault
returns-in_err-lines-clause-fault c = exit_memory c.from_residual.result _ c.from_residual.ensures.1

pub loop-line-init : goal.loop-line-init
loop-line-init c = (c.new-names.ensures.items, All-nil IsName)

pub returns-in_err-add_line-clause-names : goal.returns-in_err-add_line-clause-names
returns-in_err-add_line-clause-names c =
    no_value c.from_residual-in_err-add_line.result c.in_err-add_line.field-0.0 _
    c.from_residual-in_err-add_line.ensures.1

pub returns-in_err-add_line-clause-each : goal.returns-in_err-add_line-clause-each
returns-in_err-add_line-clause-each c =
    no_success c.from_residual-in_err-add_line.result c.in_err-add_line.field-0.0 _
    c.from_residual-in_err-add_line.ensures.1

pub returns-clause-names : goal.returns-clause-names
returns-clause-names c =
    let lines = ap (map (λ line. line.now)) c.deref-line-items.ensures.value ∙ c.in_ok-lines.ensures
    ∙ ap (slice_split (λ byte. byte == 10)) c.as_bytes.ensures.value in
    c.loop-line.invariant.0
    ∙ (ap (named (λ line. line.now))
    (take_all c.loop-line.line-index c.deref-line-items.result.now c.loop-line-test.false)
    ∙ ap (λ l. filter counts (map trimmed_line l)) lines)

pub returns-clause-each : goal.returns-clause-each
returns-clause-each c =
    let lines = ap (map (λ line. line.now)) c.deref-line-items.ensures.value ∙ c.in_ok-lines.ensures
    ∙ ap (slice_split (λ byte. byte == 10)) c.as_bytes.ensures.value in
    subst (All IsName)
    (ap (named (λ line. line.now))
    (take_all c.loop-line.line-index c.deref-line-items.result.now c.loop-line-test.false)
    ∙ ap (λ l. filter counts (map trimmed_line l)) lines) c.loop-line.invariant.1
