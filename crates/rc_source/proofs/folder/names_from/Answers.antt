use Rattle.std.proofs.Common.{◌∙◌, ◌≤◌, ℕ, List, All, map, sym, subst, string_bytes}
use Rattle.std.proofs.lemmas.List.{length-map, take_all}
use Rattle.std.proofs.lemmas.List.Elements.{All-nil, All-push}
use Rattle.rc_model.specs.Names.{IsName}
use Rattle.rc_model.proofs.Results.{no_value}
use Rattle.rc_source.specs.declared.fault.Flaw.TheVariants.{Memory}
use Rattle.rc_source.proofs.Exits.{exit, exit_memory}
use Rattle.rc_source.proofs.Folders.{is_shown, push_shown}
use Rattle.rc_source.proofs.folder.names_from.Goals as goal

pub loop-text-preserved : goal.loop-text-preserved
loop-text-preserved c =
    let name = c.in_ok-name_in.field-0 in (
      push_shown string_bytes c.args.texts.now c.loop-text.text-index c.text-item.result
          c.loop-text.names.items c.push.new.self.items name c.loop-text-test.true c.text-item.is
          c.in_ok-push.ensures.items c.loop-text.invariant.0
          (c.in_ok-name_in.ensures.name.0 ∙ c.as_bytes.ensures.value),
      subst (All IsName) (sym {A = List (List ℕ)} c.in_ok-push.ensures.items)
          (All-push IsName c.loop-text.names.items name c.loop-text.invariant.1
          (subst IsName (sym c.in_ok-name_in.ensures.name.0) c.in_ok-name_in.ensures.name.1)),
    )

pub loop-text-init : goal.loop-text-init
loop-text-init c = (
  c.new-names.ensures.items,
  subst (All IsName) (sym {A = List (List ℕ)} c.new-names.ensures.items) (All-nil IsName),
)

pub returns-in_err-name_in-clause-names : goal.returns-in_err-name_in-clause-names
returns-in_err-name_in-clause-names c =
    no_value c.from_residual.result c.in_err-name_in.field-0.0 _ c.from_residual.ensures.1

pub returns-in_err-name_in-clause-each : goal.returns-in_err-name_in-clause-each
returns-in_err-name_in-clause-each c =
    no_value c.from_residual.result c.in_err-name_in.field-0.0 _ c.from_residual.ensures.1

pub returns-in_err-name_in-clause-fault : goal.returns-in_err-name_in-clause-fault
returns-in_err-name_in-clause-fault c =
    exit c.from_residual.result c.in_err-name_in.field-0.0 _ c.from_residual.ensures.1
    (λ no_memory.
    let told = c.in_err-name_in.ensures.fault no_memory in
    let shown = is_shown string_bytes c.args.texts.now c.loop-text.text-index c.text-item.result
    c.loop-text-test.true c.text-item.is in (
      told.0,
      (
        string_bytes c.text-item.result,
        shown,
        λ is. told.1 (subst IsName (sym c.as_bytes.ensures.value) is),
      ),
    ))

pub returns-in_err-push-clause-names : goal.returns-in_err-push-clause-names
returns-in_err-push-clause-names c =
    no_value c.from_residual-in_err-push.result Memory _ c.from_residual-in_err-push.ensures.1

pub returns-in_err-push-clause-each : goal.returns-in_err-push-clause-each
returns-in_err-push-clause-each c =
    no_value c.from_residual-in_err-push.result Memory _ c.from_residual-in_err-push.ensures.1

pub returns-in_err-push-clause-fault : goal.returns-in_err-push-clause-fault
returns-in_err-push-clause-fault c =
    exit_memory c.from_residual-in_err-push.result _ c.from_residual-in_err-push.ensures.1

pub returns-clause-names : goal.returns-clause-names
returns-clause-names c =
    let i : ℕ = c.loop-text.text-index in
    c.loop-text.invariant.0 ∙ take_all i (map string_bytes c.args.texts.now)
    (subst (λ n. n ≤ i) (sym (length-map c.args.texts.now string_bytes)) c.loop-text-test.false)

pub returns-clause-each : goal.returns-clause-each
returns-clause-each c = c.loop-text.invariant.1
