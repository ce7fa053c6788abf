use Rattle.std.proofs.Common.{Contains, map, codes, ap, string_bytes}
use Rattle.rc_model.proofs.Results.{no_value}
use Rattle.rc_source.specs.Tree.{file_at}
use Rattle.rc_source.specs.Meaning.{given_in}
use Rattle.rc_source.proofs.Asking.{asked_memory, asked_ok, asked_on}
use Rattle.rc_source.proofs.Exits.{exit, exit_memory, no_success}
use Rattle.rc_source.proofs.Folders.{lists_one}
use Rattle.rc_source.proofs.entry.consumer_for_at.Goals as goal

pub returns-in_err-add_names_at-clause-fault : goal.returns-in_err-add_names_at-clause-fault
returns-in_err-add_names_at-clause-fault g c =
    exit c.from_residual.result c.in_err-add_names_at.field-0.0 _ c.from_residual.ensures.1
    c.in_err-add_names_at.ensures.fault

pub returns-in_err-names-clause-fault : goal.returns-in_err-names-clause-fault
returns-in_err-names-clause-fault g c =
    exit_memory c.from_residual-in_err-names.result _ c.from_residual-in_err-names.ensures.1

pub returns-clause-names : goal.returns-clause-names
returns-clause-names g c = λ source known.
    lists_one (Contains (given_in (file_at source c.args.entry.now (codes "consumer-for"))))
    (map string_bytes c.new-set.result.keys) (map string_bytes c.add_names_at.new.set.keys)
    c.in_ok-names.field-0.items
    (ap (map string_bytes) c.new-set.ensures.empty) c.in_ok-names.ensures.names
    c.in_ok-names.ensures.order (c.in_ok-add_names_at.ensures.names source known)

pub returns-in_err-add_names_at-clause-names : goal.returns-in_err-add_names_at-clause-names
returns-in_err-add_names_at-clause-names g c =
    no_value c.from_residual.result c.in_err-add_names_at.field-0.0 _ c.from_residual.ensures.1

pub returns-in_err-add_names_at-clause-each : goal.returns-in_err-add_names_at-clause-each
returns-in_err-add_names_at-clause-each g c =
    no_value c.from_residual.result c.in_err-add_names_at.field-0.0 _ c.from_residual.ensures.1

pub returns-in_err-add_names_at-clause-passes : goal.returns-in_err-add_names_at-clause-passes
returns-in_err-add_names_at-clause-passes g c =
    no_success c.from_residual.result c.in_err-add_names_at.field-0.0 _ c.from_residual.ensures.1

pub returns-in_err-add_names_at-clause-asked : goal.returns-in_err-add_names_at-clause-asked
returns-in_err-add_names_at-clause-asked g c =
    asked_on c.from_residual.result c.in_err-add_names_at.field-0.0 _ _ _ _
    c.from_residual.ensures.1 c.in_err-add_names_at.ensures.asked

pub returns-in_err-names-clause-names : goal.returns-in_err-names-clause-names
returns-in_err-names-clause-names g c =
    no_value c.from_residual-in_err-names.result _ _ c.from_residual-in_err-names.ensures.1

pub returns-in_err-names-clause-each : goal.returns-in_err-names-clause-each
returns-in_err-names-clause-each g c =
    no_value c.from_residual-in_err-names.result _ _ c.from_residual-in_err-names.ensures.1

pub returns-in_err-names-clause-passes : goal.returns-in_err-names-clause-passes
returns-in_err-names-clause-passes g c =
    no_success c.from_residual-in_err-names.result _ _ c.from_residual-in_err-names.ensures.1

pub returns-in_err-names-clause-asked : goal.returns-in_err-names-clause-asked
returns-in_err-names-clause-asked g c =
    asked_memory c.from_residual-in_err-names.result _ _ _ _ c.from_residual-in_err-names.ensures.1
    c.in_ok-add_names_at.ensures.asked.same c.in_ok-add_names_at.ensures.asked.quiet

pub returns-clause-each : goal.returns-clause-each
returns-clause-each g c = c.in_ok-names.ensures.each

pub returns-clause-passes : goal.returns-clause-passes
returns-clause-passes g c = c.in_ok-add_names_at.ensures.passes

pub returns-clause-asked : goal.returns-clause-asked
returns-clause-asked g c =
    asked_ok _ _ _ _ _ c.in_ok-add_names_at.ensures.asked.same
    c.in_ok-add_names_at.ensures.asked.quiet
