use Rattle.std.proofs.Common.{◌≡◌, ◌∙◌, inl, codes, Some, ap, subst}
use Rattle.std.proofs.lemmas.Result.{on_ok_weaker, IfOk-weaker}
use Rattle.rc_model.specs.declared.Kind.TheVariants.{Oneshot, Longrun, Bundle}
use Rattle.rc_source.specs.Kinds.{KindWord, kind_of}
use Rattle.rc_source.specs.Files.{FilePasses, StopsAtFile}
use Rattle.rc_source.proofs.Exits.{exit, if_err_weaker}
use Rattle.rc_source.proofs.EntryFiles.{entry_files_pass, entry_files_stop}
use Rattle.rc_source.proofs.entry.definition_at.Goals as goal

pub returns-in_err-kind-clause-fault : goal.returns-in_err-kind-clause-fault
returns-in_err-kind-clause-fault g c =
    exit c.from_residual.result c.in_err-kind.field-0.0 _ c.from_residual.ensures.1
    (λ no_memory source known. inl
    (subst (λ n. StopsAtFile source n (codes "type", KindWord) c.in_err-kind.field-0.0)
    c.text.ensures.bytes (c.in_err-kind.ensures.fault no_memory source known)))

pub returns-in-Oneshot-clause-says : goal.returns-in-Oneshot-clause-says
returns-in-Oneshot-clause-says g c = IfOk-weaker c.oneshot_at.result _ _
    (λ d says source known. says source (c.in_ok-kind.ensures.asked.same ∙ known)
    (subst (λ n. kind_of source n ≡ Some Oneshot) c.text.ensures.bytes
    (c.in_ok-kind.ensures.kind source known ∙ ap Some c.in-Oneshot.is)))
    c.oneshot_at.ensures.says

pub returns-in-Oneshot-clause-passes : goal.returns-in-Oneshot-clause-passes
returns-in-Oneshot-clause-passes g c = on_ok_weaker c.oneshot_at.result
    (λ passes source known. entry_files_pass source c.args.name Oneshot
    (subst (λ n. kind_of source n ≡ Some Oneshot) c.text.ensures.bytes
    (c.in_ok-kind.ensures.kind source known ∙ ap Some c.in-Oneshot.is))
    (subst (λ n. FilePasses source n (codes "type", KindWord)) c.text.ensures.bytes
    (c.in_ok-kind.ensures.passes source known))
    (passes source (c.in_ok-kind.ensures.asked.same ∙ known)))
    c.oneshot_at.ensures.passes

pub returns-in-Oneshot-clause-fault : goal.returns-in-Oneshot-clause-fault
returns-in-Oneshot-clause-fault g c = if_err_weaker c.oneshot_at.result _ _
    (λ flaw told no_memory source known. entry_files_stop source c.args.name Oneshot flaw
    (subst (λ n. kind_of source n ≡ Some Oneshot) c.text.ensures.bytes
    (c.in_ok-kind.ensures.kind source known ∙ ap Some c.in-Oneshot.is))
    (subst (λ n. FilePasses source n (codes "type", KindWord)) c.text.ensures.bytes
    (c.in_ok-kind.ensures.passes source known))
    (told no_memory source (c.in_ok-kind.ensures.asked.same ∙ known)))
    c.oneshot_at.ensures.fault

pub returns-in-Longrun-clause-says : goal.returns-in-Longrun-clause-says
returns-in-Longrun-clause-says g c = IfOk-weaker c.longrun_at.result _ _
    (λ d says source known. says source (c.in_ok-kind.ensures.asked.same ∙ known)
    (subst (λ n. kind_of source n ≡ Some Longrun) c.text.ensures.bytes
    (c.in_ok-kind.ensures.kind source known ∙ ap Some c.in-Longrun.is)))
    c.longrun_at.ensures.says

pub returns-in-Longrun-clause-passes : goal.returns-in-Longrun-clause-passes
returns-in-Longrun-clause-passes g c = on_ok_weaker c.longrun_at.result
    (λ passes source known. entry_files_pass source c.args.name Longrun
    (subst (λ n. kind_of source n ≡ Some Longrun) c.text.ensures.bytes
    (c.in_ok-kind.ensures.kind source known ∙ ap Some c.in-Longrun.is))
    (subst (λ n. FilePasses source n (codes "type", KindWord)) c.text.ensures.bytes
    (c.in_ok-kind.ensures.passes source known))
    (passes source (c.in_ok-kind.ensures.asked.same ∙ known)))
    c.longrun_at.ensures.passes

pub returns-in-Longrun-clause-fault : goal.returns-in-Longrun-clause-fault
returns-in-Longrun-clause-fault g c = if_err_weaker c.longrun_at.result _ _
    (λ flaw told no_memory source known. entry_files_stop source c.args.name Longrun flaw
    (subst (λ n. kind_of source n ≡ Some Longrun) c.text.ensures.bytes
    (c.in_ok-kind.ensures.kind source known ∙ ap Some c.in-Longrun.is))
    (subst (λ n. FilePasses source n (codes "type", KindWord)) c.text.ensures.bytes
    (c.in_ok-kind.ensures.passes source known))
    (told no_memory source (c.in_ok-kind.ensures.asked.same ∙ known)))
    c.longrun_at.ensures.fault

pub returns-in-Bundle-clause-says : goal.returns-in-Bundle-clause-says
returns-in-Bundle-clause-says g c = IfOk-weaker c.bundle_at.result _ _
    (λ d says source known. says source (c.in_ok-kind.ensures.asked.same ∙ known)
    (subst (λ n. kind_of source n ≡ Some Bundle) c.text.ensures.bytes
    (c.in_ok-kind.ensures.kind source known ∙ ap Some c.in-Bundle.is)))
    c.bundle_at.ensures.says

pub returns-in-Bundle-clause-passes : goal.returns-in-Bundle-clause-passes
returns-in-Bundle-clause-passes g c = on_ok_weaker c.bundle_at.result
    (λ passes source known. entry_files_pass source c.args.name Bundle
    (subst (λ n. kind_of source n ≡ Some Bundle) c.text.ensures.bytes
    (c.in_ok-kind.ensures.kind source known ∙ ap Some c.in-Bundle.is))
    (subst (λ n. FilePasses source n (codes "type", KindWord)) c.text.ensures.bytes
    (c.in_ok-kind.ensures.passes source known))
    (passes source (c.in_ok-kind.ensures.asked.same ∙ known)))
    c.bundle_at.ensures.passes

pub returns-in-Bundle-clause-fault : goal.returns-in-Bundle-clause-fault
returns-in-Bundle-clause-fault g c = if_err_weaker c.bundle_at.result _ _
    (λ flaw told no_memory source known. entry_files_stop source c.args.name Bundle flaw
    (subst (λ n. kind_of source n ≡ Some Bundle) c.text.ensures.bytes
    (c.in_ok-kind.ensures.kind source known ∙ ap Some c.in-Bundle.is))
    (subst (λ n. FilePasses source n (codes "type", KindWord)) c.text.ensures.bytes
    (c.in_ok-kind.ensures.passes source known))
    (told no_memory source (c.in_ok-kind.ensures.asked.same ∙ known)))
    c.bundle_at.ensures.fault
