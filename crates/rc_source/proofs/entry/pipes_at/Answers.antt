use Rattle.std.proofs.Common.{◌∙◌, ◌∷◌, [], inl, inr, codes}
use Rattle.rc_source.specs.Kinds.{Names, OneName}
use Rattle.rc_source.proofs.Exits.{exit}
use Rattle.rc_source.proofs.EntryFiles.{one_passes, two_pass}
use Rattle.rc_source.proofs.entry.pipes_at.Goals as goal

pub returns-in_err-producer_for-clause-fault : goal.returns-in_err-producer_for-clause-fault
returns-in_err-producer_for-clause-fault g c =
    exit c.from_residual.result c.in_err-producer_for.field-0.0 _ c.from_residual.ensures.1
    (λ no_memory source known. inl (c.in_err-producer_for.ensures.fault no_memory source known))

pub returns-in_err-consumer_for-clause-fault : goal.returns-in_err-consumer_for-clause-fault
returns-in_err-consumer_for-clause-fault g c =
    exit c.from_residual-in_err-consumer_for.result c.in_err-consumer_for.field-0.0 _
    c.from_residual-in_err-consumer_for.ensures.1
    (λ no_memory source known. inr (
      c.in_ok-producer_for.ensures.passes source known,
      inl (c.in_err-consumer_for.ensures.fault no_memory source
          (c.in_ok-producer_for.ensures.asked.same ∙ known)),
    ))

pub returns-in_err-pipeline_name-clause-fault : goal.returns-in_err-pipeline_name-clause-fault
returns-in_err-pipeline_name-clause-fault g c =
    exit c.from_residual-in_err-pipeline_name.result c.in_err-pipeline_name.field-0.0 _
    c.from_residual-in_err-pipeline_name.ensures.1
    (λ no_memory source known.
    let known_1 = c.in_ok-producer_for.ensures.asked.same ∙ known in
    inr (
      c.in_ok-producer_for.ensures.passes source known,
      inr (
        c.in_ok-consumer_for.ensures.passes source known_1,
        inl (c.in_err-pipeline_name.ensures.fault no_memory source
            (c.in_ok-consumer_for.ensures.asked.same ∙ known_1)),
      ),
    ))

pub returns-clause-says : goal.returns-clause-says
returns-clause-says g c = λ source known.
    let known_1 = c.in_ok-producer_for.ensures.asked.same ∙ known in record {
      producer_for = c.in_ok-producer_for.ensures.name source known;
      consumer_for = c.in_ok-consumer_for.ensures.names source known_1;
      pipeline_name =
          c.in_ok-pipeline_name.ensures.name source
          (c.in_ok-consumer_for.ensures.asked.same ∙ known_1);
    }

pub returns-clause-passes : goal.returns-clause-passes
returns-clause-passes g c = λ source known.
    let known_1 = c.in_ok-producer_for.ensures.asked.same ∙ known in
    one_passes source c.args.entry.now (codes "producer-for", OneName)
    ((codes "consumer-for", Names) ∷ (codes "pipeline-name", OneName) ∷ [])
    (c.in_ok-producer_for.ensures.passes source known)
    (two_pass source c.args.entry.now (codes "consumer-for", Names) (codes "pipeline-name", OneName)
    (c.in_ok-consumer_for.ensures.passes source known_1)
    (c.in_ok-pipeline_name.ensures.passes source
    (c.in_ok-consumer_for.ensures.asked.same ∙ known_1)))
