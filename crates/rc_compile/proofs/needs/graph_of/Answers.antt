use Rattle.std.proofs.Common.{◌∙◌, Err, ap, map}
use Rattle.rc_source.specs.Said.{meaning_of}
use Rattle.rc_compile.specs.Standing.{NeedsNamed}
use Rattle.rc_compile.proofs.Cycles.{shown_at, shown_cycle, no_shown_cycle, cycle_within}
use Rattle.rc_compile.proofs.Drafts.{shown_fault}
use Rattle.rc_compile.proofs.needs.graph_of.Goals as goal

pub shown_cycle-requires : goal.shown_cycle-requires
shown_cycle-requires c =
    cycle_within (NeedsNamed (map meaning_of c.args.definitions.now)) c.args.services.now
    c.in-Ok.draft c.in-Ok.ensures c.in-Err-Cycle.cycle
    (c.finish.ensures.cycle c.in-Err-Cycle.cycle
    (c.in-Err-Cycle.is ∙ ap (λ f. Err f) c.in-Err-Cycle.field-0-is))

pub returns-in-Ok-finish-clause-free : goal.returns-in-Ok-finish-clause-free
returns-in-Ok-finish-clause-free c =
    no_shown_cycle (NeedsNamed (map meaning_of c.args.definitions.now)) c.args.services.now
    c.in-Ok.draft c.in-Ok.ensures
    (λ a b (service, other, how). (c.requires.services a).1 service) c.in-Ok-finish.ensures.acyclic

pub returns-in-Err-Cycle-clause-fault : goal.returns-in-Err-Cycle-clause-fault
returns-in-Err-Cycle-clause-fault c =
    shown_fault (NeedsNamed (map meaning_of c.args.definitions.now))
    (map (shown_at c.args.services.now) c.in-Err-Cycle.cycle) c.shown_cycle.result
    c.shown_cycle.ensures
    (shown_cycle (NeedsNamed (map meaning_of c.args.definitions.now)) c.args.services.now
    c.in-Ok.draft c.in-Ok.ensures c.len-count.ensures.names.order c.in-Err-Cycle.cycle
    (c.finish.ensures.cycle c.in-Err-Cycle.cycle
    (c.in-Err-Cycle.is ∙ ap (λ f. Err f) c.in-Err-Cycle.field-0-is)))
