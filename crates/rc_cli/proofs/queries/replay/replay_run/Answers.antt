-- `replay` with its words, over readers and writers. If the words are wrong, nothing is read. Else
-- each clause of `run_query` is turned from the query to the words that ask it.
use Rattle.std.proofs.Common.{inl, inr}
use Rattle.rc_cli.proofs.RunLemmas.{never_wrong, status_wider}
use Rattle.rc_cli.proofs.queries.replay.replay_run.Goals as goal

pub returns-in-Ok : goal.returns-in-Ok
returns-in-Ok g c =
    let run = c.run_query.ensures in
    record {
      statuses = status_wider _ run.statuses;
      done = run.done;
      untold = run.untold;
      refused = run.refused;
      wrong = λ wrong. absurd (never_wrong _ run.statuses wrong);
      right = λ other more. c.in-Ok.ensures.asked;
      unread = λ wrong. absurd (never_wrong _ run.statuses wrong);
      failed = run.failed;
      read = run.read;
      written = run.written;
      begun = run.begun;
      unwritten = λ cases. elim cases [
        | inl one ↦ run.unwritten one
        | inr wrong ↦ absurd (never_wrong _ run.statuses wrong)
      ];
      first = run.first;
      based = run.based;
      untrue = run.untrue;
      within = run.within;
      end = run.end;
      taken = run.taken;
    }
