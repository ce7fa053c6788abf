use Rattle.std.proofs.Common.{◌∙◌}
use Rattle.rc_model.proofs.Results.{no_value}
use Rattle.rc_source.proofs.Asking.{asked_ok, asked_on, asked_then}
use Rattle.rc_source.proofs.Exits.{exit, no_success}
use Rattle.rc_source.proofs.EntryFiles.{service_passes, stops_in_limits, stops_at_flag}
use Rattle.rc_source.proofs.EntryFiles.{stops_in_needs, stops_in_pipes}
use Rattle.rc_source.proofs.entry.service_at.Goals as goal

pub returns-in_err-limits-clause-fault : goal.returns-in_err-limits-clause-fault
returns-in_err-limits-clause-fault g c =
    exit c.from_residual.result c.in_err-limits.field-0.0 _ c.from_residual.ensures.1
    (λ no_memory source known. stops_in_limits source c.args.entry.now c.in_err-limits.field-0.0
    (c.in_err-limits.ensures.fault no_memory source known))

pub returns-in_err-essential-clause-fault : goal.returns-in_err-essential-clause-fault
returns-in_err-essential-clause-fault g c =
    exit c.from_residual-in_err-essential.result c.in_err-essential.field-0.0 _
    c.from_residual-in_err-essential.ensures.1
    (λ no_memory source known. stops_at_flag source c.args.entry.now
    (c.in_ok-limits.ensures.passes source known) c.in_err-essential.field-0.0
    (c.in_err-essential.ensures.fault no_memory source (c.in_ok-limits.ensures.asked.same ∙ known)))

pub returns-in_err-dependencies-clause-fault : goal.returns-in_err-dependencies-clause-fault
returns-in_err-dependencies-clause-fault g c =
    exit c.from_residual-in_err-dependencies.result c.in_err-dependencies.field-0.0 _
    c.from_residual-in_err-dependencies.ensures.1
    (λ no_memory source known.
    let known_1 = c.in_ok-limits.ensures.asked.same ∙ known in
    stops_in_needs source c.args.entry.now (c.in_ok-limits.ensures.passes source known)
    c.in_err-dependencies.field-0.0
    (c.in_err-dependencies.ensures.fault no_memory source
    (c.in_ok-essential.ensures.asked.same ∙ known_1)))

pub returns-in_err-pipes-clause-fault : goal.returns-in_err-pipes-clause-fault
returns-in_err-pipes-clause-fault g c =
    exit c.from_residual-in_err-pipes.result c.in_err-pipes.field-0.0 _
    c.from_residual-in_err-pipes.ensures.1
    (λ no_memory source known.
    let known_1 = c.in_ok-limits.ensures.asked.same ∙ known in
    let known_2 = c.in_ok-essential.ensures.asked.same ∙ known_1 in
    stops_in_pipes source c.args.entry.now (c.in_ok-limits.ensures.passes source known)
    c.in_err-pipes.field-0.0 (c.in_ok-dependencies.ensures.passes source known_2)
    (c.in_err-pipes.ensures.fault no_memory source
    (c.in_ok-dependencies.ensures.asked.same ∙ known_2)))

pub returns-clause-says : goal.returns-clause-says
returns-clause-says g c = λ source known.
    let known_1 = c.in_ok-limits.ensures.asked.same ∙ known in
    let known_2 = c.in_ok-essential.ensures.asked.same ∙ known_1 in record {
      limits = c.in_ok-limits.ensures.says source known;
      essential = c.in_ok-essential.ensures.flag source known_1;
      dependencies = c.in_ok-dependencies.ensures.names source known_2;
      pipes = c.in_ok-pipes.ensures.says source (c.in_ok-dependencies.ensures.asked.same ∙ known_2);
    }

pub returns-clause-service : goal.returns-clause-service
returns-clause-service g c = record {
  limits = c.in_ok-limits.ensures.limits;
  dependencies = c.in_ok-dependencies.ensures.each;
  pipes = c.in_ok-pipes.ensures.pipes;
}

pub returns-clause-passes : goal.returns-clause-passes
returns-clause-passes g c = λ source known.
    let known_1 = c.in_ok-limits.ensures.asked.same ∙ known in
    let known_2 = c.in_ok-essential.ensures.asked.same ∙ known_1 in
    service_passes source c.args.entry.now (c.in_ok-limits.ensures.passes source known)
    (c.in_ok-dependencies.ensures.passes source known_2)
    (c.in_ok-pipes.ensures.passes source (c.in_ok-dependencies.ensures.asked.same ∙ known_2))

pub returns-in_err-limits-clause-says : goal.returns-in_err-limits-clause-says
returns-in_err-limits-clause-says g c =
    no_value c.from_residual.result c.in_err-limits.field-0.0 _ c.from_residual.ensures.1

pub returns-in_err-limits-clause-service : goal.returns-in_err-limits-clause-service
returns-in_err-limits-clause-service g c =
    no_value c.from_residual.result c.in_err-limits.field-0.0 _ c.from_residual.ensures.1

pub returns-in_err-limits-clause-passes : goal.returns-in_err-limits-clause-passes
returns-in_err-limits-clause-passes g c =
    no_success c.from_residual.result c.in_err-limits.field-0.0 _ c.from_residual.ensures.1

pub returns-in_err-limits-clause-asked : goal.returns-in_err-limits-clause-asked
returns-in_err-limits-clause-asked g c =
    asked_on c.from_residual.result c.in_err-limits.field-0.0 _ _ _ _ c.from_residual.ensures.1
    c.in_err-limits.ensures.asked

pub returns-in_err-essential-clause-says : goal.returns-in_err-essential-clause-says
returns-in_err-essential-clause-says g c =
    no_value c.from_residual-in_err-essential.result c.in_err-essential.field-0.0 _
    c.from_residual-in_err-essential.ensures.1

pub returns-in_err-essential-clause-service : goal.returns-in_err-essential-clause-service
returns-in_err-essential-clause-service g c =
    no_value c.from_residual-in_err-essential.result c.in_err-essential.field-0.0 _
    c.from_residual-in_err-essential.ensures.1

pub returns-in_err-essential-clause-passes : goal.returns-in_err-essential-clause-passes
returns-in_err-essential-clause-passes g c =
    no_success c.from_residual-in_err-essential.result c.in_err-essential.field-0.0 _
    c.from_residual-in_err-essential.ensures.1

pub returns-in_err-essential-clause-asked : goal.returns-in_err-essential-clause-asked
returns-in_err-essential-clause-asked g c =
    asked_then _ _ _ _ _ _ _ c.in_ok-limits.ensures.asked.same c.in_ok-limits.ensures.asked.quiet
    (asked_on c.from_residual-in_err-essential.result c.in_err-essential.field-0.0 _ _ _ _
    c.from_residual-in_err-essential.ensures.1 c.in_err-essential.ensures.asked)

pub returns-in_err-dependencies-clause-says : goal.returns-in_err-dependencies-clause-says
returns-in_err-dependencies-clause-says g c =
    no_value c.from_residual-in_err-dependencies.result c.in_err-dependencies.field-0.0 _
    c.from_residual-in_err-dependencies.ensures.1

pub returns-in_err-dependencies-clause-service : goal.returns-in_err-dependencies-clause-service
returns-in_err-dependencies-clause-service g c =
    no_value c.from_residual-in_err-dependencies.result c.in_err-dependencies.field-0.0 _
    c.from_residual-in_err-dependencies.ensures.1

pub returns-in_err-dependencies-clause-passes : goal.returns-in_err-dependencies-clause-passes
returns-in_err-dependencies-clause-passes g c =
    no_success c.from_residual-in_err-dependencies.result c.in_err-dependencies.field-0.0 _
    c.from_residual-in_err-dependencies.ensures.1

pub returns-in_err-dependencies-clause-asked : goal.returns-in_err-dependencies-clause-asked
returns-in_err-dependencies-clause-asked g c =
    asked_then _ _ _ _ _ _ _
    (c.in_ok-essential.ensures.asked.same ∙ c.in_ok-limits.ensures.asked.same)
    (c.in_ok-essential.ensures.asked.quiet ∙ c.in_ok-limits.ensures.asked.quiet)
    (asked_on c.from_residual-in_err-dependencies.result c.in_err-dependencies.field-0.0 _ _ _ _
    c.from_residual-in_err-dependencies.ensures.1 c.in_err-dependencies.ensures.asked)

pub returns-in_err-pipes-clause-says : goal.returns-in_err-pipes-clause-says
returns-in_err-pipes-clause-says g c =
    no_value c.from_residual-in_err-pipes.result c.in_err-pipes.field-0.0 _
    c.from_residual-in_err-pipes.ensures.1

pub returns-in_err-pipes-clause-service : goal.returns-in_err-pipes-clause-service
returns-in_err-pipes-clause-service g c =
    no_value c.from_residual-in_err-pipes.result c.in_err-pipes.field-0.0 _
    c.from_residual-in_err-pipes.ensures.1

pub returns-in_err-pipes-clause-passes : goal.returns-in_err-pipes-clause-passes
returns-in_err-pipes-clause-passes g c =
    no_success c.from_residual-in_err-pipes.result c.in_err-pipes.field-0.0 _
    c.from_residual-in_err-pipes.ensures.1

pub returns-in_err-pipes-clause-asked : goal.returns-in_err-pipes-clause-asked
returns-in_err-pipes-clause-asked g c =
    asked_then _ _ _ _ _ _ _
    (c.in_ok-dependencies.ensures.asked.same ∙ c.in_ok-essential.ensures.asked.same
    ∙ c.in_ok-limits.ensures.asked.same)
    (c.in_ok-dependencies.ensures.asked.quiet ∙ c.in_ok-essential.ensures.asked.quiet
    ∙ c.in_ok-limits.ensures.asked.quiet)
    (asked_on c.from_residual-in_err-pipes.result c.in_err-pipes.field-0.0 _ _ _ _
    c.from_residual-in_err-pipes.ensures.1 c.in_err-pipes.ensures.asked)

pub returns-clause-asked : goal.returns-clause-asked
returns-clause-asked g c =
    asked_ok _ _ _ _ _ (c.in_ok-pipes.ensures.asked.same ∙ c.in_ok-dependencies.ensures.asked.same
    ∙ c.in_ok-essential.ensures.asked.same ∙ c.in_ok-limits.ensures.asked.same)
    (c.in_ok-pipes.ensures.asked.quiet ∙ c.in_ok-dependencies.ensures.asked.quiet
    ∙ c.in_ok-essential.ensures.asked.quiet ∙ c.in_ok-limits.ensures.asked.quiet)
