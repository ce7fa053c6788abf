use Rattle.std.proofs.Common.{codes, sym, ap, subst}
use Rattle.rc_model.specs.declared.Kind.TheVariants.{Bundle}
use Rattle.rc_source.specs.Kinds.{files_of_kind}
use Rattle.rc_source.specs.Files.{FilesPass, StopsInFiles}
use Rattle.rc_source.specs.Meaning.{ListsNames, Means, IsMeaning}
use Rattle.rc_source.specs.Said.{IsNamedIn}
use Rattle.rc_source.proofs.Exits.{exit}
use Rattle.rc_source.proofs.EntryMeaning.{bundle_means, bundle_is_meaning}
use Rattle.rc_source.proofs.entry.bundle_at.Goals as goal

pub returns-in_err-contents-clause-fault : goal.returns-in_err-contents-clause-fault
returns-in_err-contents-clause-fault g c =
    exit c.from_residual.result c.in_err-contents.field-0.0 _ c.from_residual.ensures.1
    (λ no_memory source known. subst
    (λ n. StopsInFiles source n (files_of_kind Bundle) c.in_err-contents.field-0.0)
    c.text.ensures.bytes (c.in_err-contents.ensures.fault no_memory source known))

pub returns-clause-says : goal.returns-clause-says
returns-clause-says g c = λ source known kind.
    subst (Means source c.args.name) (sym c.bundle_of.ensures)
    (bundle_means source c.args.name c.in_ok-contents.contents.items kind
    (subst (λ n. ListsNames (IsNamedIn source n (codes "contents") (codes "contents.d"))
    c.in_ok-contents.contents.items) c.text.ensures.bytes
    (c.in_ok-contents.ensures.names source known)))

pub returns-clause-meaning : goal.returns-clause-meaning
returns-clause-meaning g c =
    subst IsMeaning (sym c.bundle_of.ensures)
    (bundle_is_meaning c.args.name c.in_ok-contents.contents.items c.text.ensures.name
    c.in_ok-contents.ensures.each)

pub returns-clause-named : goal.returns-clause-named
returns-clause-named g c = ap (λ m. m.name) c.bundle_of.ensures

pub returns-clause-passes : goal.returns-clause-passes
returns-clause-passes g c = λ source known. subst (λ n. FilesPass source n (files_of_kind Bundle))
    c.text.ensures.bytes (c.in_ok-contents.ensures.passes source known)
