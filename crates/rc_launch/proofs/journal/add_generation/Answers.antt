use Rattle.std.proofs.Common.{◌++◌, length, refl}
use Rattle.rc_model.specs.Line.{states}
use Rattle.rc_launch.specs.HistoryJournal.{border_text}
use Rattle.rc_launch.proofs.journal.add_generation.Goals as goal

pub returns-in-Ok-clause-some : goal.returns-in-Ok-clause-some
returns-in-Ok-clause-some c =
    let (says, line_of, spelled) = rw c.in-Some.is at c.in_ok-db.ensures.some in
    let (next, (lines, entries, are, passing, grows)) = c.in-Ok.ensures in (
      record {
        base = c.in-Some.db;
        line = c.in-Some.line.line;
        says = says;
        line_of = line_of;
        spelled = spelled;
      },
      border_text c.args.first c.args.generation.now (length (states c.in-Some.line.line))
          ++ entries,
      (lines, entries, are, passing, refl),
      next,
      grows,
    )
