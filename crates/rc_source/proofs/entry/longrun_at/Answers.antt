use Rattle.std.proofs.Common.{◌∙◌, inl, inr, codes, sym, ap, subst}
use Rattle.rc_source.specs.Kinds.{Anything, files_of_atomic}
use Rattle.rc_source.specs.Files.{FilePasses, StopsAtFile, FilesPass, StopsInFiles}
use Rattle.rc_source.specs.Meaning.{Means, IsMeaning}
use Rattle.rc_source.specs.Said.{SayService}
use Rattle.rc_source.proofs.Exits.{exit}
use Rattle.rc_source.proofs.EntryFiles.{one_passes}
use Rattle.rc_source.proofs.EntryMeaning.{longrun_means, longrun_is_meaning}
use Rattle.rc_source.proofs.entry.longrun_at.Goals as goal

pub returns-in_err-test_run-clause-fault : goal.returns-in_err-test_run-clause-fault
returns-in_err-test_run-clause-fault g c =
    exit c.from_residual.result c.in_err-test_run.field-0.0 _ c.from_residual.ensures.1
    (λ no_memory source known. inl
    (subst (λ n. StopsAtFile source n (codes "run", Anything) c.in_err-test_run.field-0.0)
    c.text.ensures.bytes (c.in_err-test_run.ensures.fault no_memory source known)))

pub returns-in_err-service-clause-fault : goal.returns-in_err-service-clause-fault
returns-in_err-service-clause-fault g c =
    exit c.from_residual-in_err-service.result c.in_err-service.field-0.0 _
    c.from_residual-in_err-service.ensures.1
    (λ no_memory source known. inr (
      subst (λ n. FilePasses source n (codes "run", Anything)) c.text.ensures.bytes
          (c.in_ok-test_run.ensures.passes source known),
      subst (λ n. StopsInFiles source n files_of_atomic c.in_err-service.field-0.0)
          c.text-2.ensures.bytes
          (c.in_err-service.ensures.fault no_memory source
          (c.in_ok-test_run.ensures.asked.same ∙ known)),
    ))

pub returns-clause-says : goal.returns-clause-says
returns-clause-says g c = λ source known kind.
    subst (Means source c.args.name) (sym c.definition_of.ensures)
    (longrun_means source c.args.name c.in_ok-service.service kind
    (subst (λ n. SayService source n c.in_ok-service.service) c.text-2.ensures.bytes
    (c.in_ok-service.ensures.says source (c.in_ok-test_run.ensures.asked.same ∙ known))))

pub returns-clause-meaning : goal.returns-clause-meaning
returns-clause-meaning g c =
    subst IsMeaning (sym c.definition_of.ensures)
    (longrun_is_meaning c.args.name c.in_ok-service.service c.text.ensures.name
    c.in_ok-service.ensures.service)

pub returns-clause-named : goal.returns-clause-named
returns-clause-named g c = ap (λ m. m.name) c.definition_of.ensures

pub returns-clause-passes : goal.returns-clause-passes
returns-clause-passes g c = λ source known.
    one_passes source c.args.name (codes "run", Anything) files_of_atomic
    (subst (λ n. FilePasses source n (codes "run", Anything)) c.text.ensures.bytes
    (c.in_ok-test_run.ensures.passes source known))
    (subst (λ n. FilesPass source n files_of_atomic) c.text-2.ensures.bytes
    (c.in_ok-service.ensures.passes source (c.in_ok-test_run.ensures.asked.same ∙ known)))
