use Rattle.std.proofs.Common.{ap}
use Rattle.rc_historytext.specs.Text.{GenerationText}
use Rattle.rc_launch.proofs.JournalLines.{none_told}
use Rattle.rc_launch.proofs.journal.told_of.Goals as goal

pub returns-in-Ok-None-clause-none : goal.returns-in-Ok-None-clause-none
returns-in-Ok-None-clause-none c =
    none_told c.args.generation.now c.generation.inside.database.now
    c.generation.inside.session.now c.in-Some.db
    (ap (λ (g : GenerationText). g.database) c.generation.view_is)
    (ap (λ (g : GenerationText). g.session) c.generation.view_is)
    c.spelling_is_unique.ensures.value (rw c.in-Some.is at c.in_ok-db.ensures.some)
    (rw c.in-Ok-None.field-0-is at c.in-Ok-None.ensures.none)
