use Rattle.std.proofs.Common.{◌∙◌, Contains, arith, refl, rules, subst}
use Rattle.rc_source.specs.Files.{FilesPass, StopsInFiles}
use Rattle.rc_source.specs.Meaning.{Means}
use Rattle.rc_source.specs.Said.{meaning_of, meant}
use Rattle.rc_source.specs.Tests.{files_of_entry}
use Rattle.rc_source.proofs.Exits.{exit, exit_memory}
use Rattle.rc_source.proofs.EntryTests.{entry_passes, asks_no_device, stops_at_new_name}
use Rattle.rc_source.proofs.EntryTests.{stops_in_files}
use Rattle.rc_source.proofs.read.read_entry.Goals as goal

pub returns-in_err-name-clause-fault : goal.returns-in_err-name-clause-fault
returns-in_err-name-clause-fault g c =
    exit c.from_residual.result c.in_err-name.field-0.0 _ c.from_residual.ensures.1
    (λ no_memory source known. stops_at_new_name (meant c.args.found.now) source c.args.entry.now
    c.in_err-name.field-0.0 (c.in_err-name.ensures.fault no_memory))

pub returns-in_err-name-clause-asked : goal.returns-in_err-name-clause-asked
returns-in_err-name-clause-asked g c = record {
  io = exit c.from_residual.result c.in_err-name.field-0.0 _ c.from_residual.ensures.1
      (λ io. absurd
      (asks_no_device (meant c.args.found.now) c.args.entry.now c.in_err-name.field-0.0
      c.in_err-name.ensures.fault io));
  same = refl;
  count = omega arith;
  quiet = search rules;
}

pub returns-in_err-definition-clause-fault : goal.returns-in_err-definition-clause-fault
returns-in_err-definition-clause-fault g c =
    exit c.from_residual-in_err-definition.result c.in_err-definition.field-0.0 _
    c.from_residual-in_err-definition.ensures.1
    (λ no_memory source known.
    stops_in_files (meant c.args.found.now) source c.args.entry.now c.in_err-definition.field-0.0
    c.in_ok-name.ensures.name.1 c.in_ok-name.ensures.free
    (subst (λ n. StopsInFiles source n (files_of_entry source n) c.in_err-definition.field-0.0)
    c.in_ok-name.ensures.name.0 (c.in_err-definition.ensures.fault no_memory source known)))

pub add-requires-clause-meaning : goal.add-requires-clause-meaning
add-requires-clause-meaning g c = c.in_ok-definition.ensures.meaning

pub add-requires-clause-free : goal.add-requires-clause-free
add-requires-clause-free g c = λ there.
    c.in_ok-name.ensures.free
    (subst (Contains (meant c.args.found.now))
    (c.in_ok-definition.ensures.named ∙ c.in_ok-name.ensures.name.0) there)

pub returns-in_err-add-clause-fault : goal.returns-in_err-add-clause-fault
returns-in_err-add-clause-fault g c =
    exit_memory c.from_residual-in_err-add.result _ c.from_residual-in_err-add.ensures.1

pub returns-clause-meaning : goal.returns-clause-meaning
returns-clause-meaning g c = λ source known. (
  meaning_of c.in_ok-definition.definition,
  c.in_ok-add.ensures.added,
  subst (λ n. Means source n (meaning_of c.in_ok-definition.definition)) c.in_ok-name.ensures.name.0
      (c.in_ok-definition.ensures.says source known),
)

pub returns-clause-passes : goal.returns-clause-passes
returns-clause-passes g c = λ source known.
    entry_passes (meant c.args.found.now) source c.args.entry.now c.in_ok-name.ensures.name.1
    c.in_ok-name.ensures.free
    (subst (λ n. FilesPass source n (files_of_entry source n)) c.in_ok-name.ensures.name.0
    (c.in_ok-definition.ensures.passes source known))
