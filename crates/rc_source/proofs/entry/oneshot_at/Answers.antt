use Rattle.std.proofs.Common.{◌≡◌, ◌∙◌, ◌∷◌, inl, inr, codes, Some, sym, ap, subst, string_bytes}
use Rattle.std.specs.Option.{option_map}
use Rattle.rc_source.specs.Tree.{file_at}
use Rattle.rc_source.specs.Kinds.{UpText, DownText, files_of_atomic}
use Rattle.rc_source.specs.Files.{FilePasses, StopsAtFile, FilesPass, StopsInFiles}
use Rattle.rc_source.specs.Meaning.{Means, IsMeaning}
use Rattle.rc_source.specs.Said.{SayService}
use Rattle.rc_source.proofs.Exits.{exit}
use Rattle.rc_source.proofs.EntryFiles.{one_passes}
use Rattle.rc_source.proofs.EntryMeaning.{oneshot_means, oneshot_is_meaning, shown_script}
use Rattle.rc_source.proofs.entry.oneshot_at.Goals as goal

pub returns-in_err-up-clause-fault : goal.returns-in_err-up-clause-fault
returns-in_err-up-clause-fault g c =
    exit c.from_residual.result c.in_err-up.field-0.0 _ c.from_residual.ensures.1
    (λ no_memory source known. inl
    (subst (λ n. StopsAtFile source n (codes "up", UpText) c.in_err-up.field-0.0)
    c.text.ensures.bytes (c.in_err-up.ensures.fault no_memory source known)))

pub returns-in_err-down-clause-fault : goal.returns-in_err-down-clause-fault
returns-in_err-down-clause-fault g c =
    exit c.from_residual-in_err-down.result c.in_err-down.field-0.0 _
    c.from_residual-in_err-down.ensures.1
    (λ no_memory source known. inr (
      subst (λ n. FilePasses source n (codes "up", UpText)) c.text.ensures.bytes
          (c.in_ok-up.ensures.passes source known),
      inl (subst (λ n. StopsAtFile source n (codes "down", DownText) c.in_err-down.field-0.0)
          c.text-2.ensures.bytes
          (c.in_err-down.ensures.fault no_memory source (c.in_ok-up.ensures.asked.same ∙ known))),
    ))

pub returns-in_err-service-clause-fault : goal.returns-in_err-service-clause-fault
returns-in_err-service-clause-fault g c =
    exit c.from_residual-in_err-service.result c.in_err-service.field-0.0 _
    c.from_residual-in_err-service.ensures.1
    (λ no_memory source known.
    let known_1 = c.in_ok-up.ensures.asked.same ∙ known in
    inr (
      subst (λ n. FilePasses source n (codes "up", UpText)) c.text.ensures.bytes
          (c.in_ok-up.ensures.passes source known),
      inr (
        subst (λ n. FilePasses source n (codes "down", DownText)) c.text-2.ensures.bytes
            (c.in_ok-down.ensures.passes source known_1),
        subst (λ n. StopsInFiles source n files_of_atomic c.in_err-service.field-0.0)
            c.text-3.ensures.bytes
            (c.in_err-service.ensures.fault no_memory source
            (c.in_ok-down.ensures.asked.same ∙ known_1)),
      ),
    ))

pub returns-clause-says : goal.returns-clause-says
returns-clause-says g c = λ source known kind.
    let known_1 = c.in_ok-up.ensures.asked.same ∙ known in
    subst (Means source c.args.name) (sym c.definition_of.ensures)
    (oneshot_means source c.args.name (string_bytes c.in_ok-up.up)
    (option_map string_bytes c.in_ok-down.down) c.in_ok-service.service kind
    (subst (λ n. file_at source n (codes "up") ≡ Some (string_bytes c.in_ok-up.up))
    c.text.ensures.bytes (c.in_ok-up.ensures.text source known))
    (subst (λ n. file_at source n (codes "down") ≡ option_map string_bytes c.in_ok-down.down)
    c.text-2.ensures.bytes (c.in_ok-down.ensures.text source known_1))
    (subst (λ n. SayService source n c.in_ok-service.service) c.text-3.ensures.bytes
    (c.in_ok-service.ensures.says source (c.in_ok-down.ensures.asked.same ∙ known_1))))

pub returns-clause-meaning : goal.returns-clause-meaning
returns-clause-meaning g c = subst IsMeaning (sym c.definition_of.ensures)
    (oneshot_is_meaning c.args.name (string_bytes c.in_ok-up.up)
    (option_map string_bytes c.in_ok-down.down) c.in_ok-service.service c.text.ensures.name
    c.in_ok-up.ensures.script
    (shown_script string_bytes c.in_ok-down.down c.in_ok-down.ensures.script)
    c.in_ok-service.ensures.service)

pub returns-clause-named : goal.returns-clause-named
returns-clause-named g c = ap (λ m. m.name) c.definition_of.ensures

pub returns-clause-passes : goal.returns-clause-passes
returns-clause-passes g c = λ source known.
    let known_1 = c.in_ok-up.ensures.asked.same ∙ known in
    one_passes source c.args.name (codes "up", UpText) ((codes "down", DownText) ∷ files_of_atomic)
    (subst (λ n. FilePasses source n (codes "up", UpText)) c.text.ensures.bytes
    (c.in_ok-up.ensures.passes source known))
    (one_passes source c.args.name (codes "down", DownText) files_of_atomic
    (subst (λ n. FilePasses source n (codes "down", DownText)) c.text-2.ensures.bytes
    (c.in_ok-down.ensures.passes source known_1))
    (subst (λ n. FilesPass source n files_of_atomic) c.text-3.ensures.bytes
    (c.in_ok-service.ensures.passes source (c.in_ok-down.ensures.asked.same ∙ known_1))))
