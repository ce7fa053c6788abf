-- `plan` with its words, over readers and writers. If the words are wrong, nothing is read. If they
-- ask for a plan, each clause of `run_query` is turned from the query to the words that ask it: by
-- `if_some_then`, since the input is known only as far as it could be read.
use Rattle.std.proofs.Common.{inl, inr, map, string_bytes}
use Rattle.rc_select.specs.Ask.{ask_of}
use Rattle.rc_dbtext.specs.Base.{bytes_of}
use Rattle.rc_streams.specs.Noting.{inner_of}
use Rattle.rc_cli.proofs.QueryLemmas.{if_some_then}
use Rattle.rc_cli.proofs.RunLemmas.{never_wrong, plan_begun, plan_written, some_asked}
use Rattle.rc_cli.proofs.RunLemmas.{status_wider}
use Rattle.rc_cli.proofs.queries.plan.plan_run.Goals as goal

pub returns-in-Ok : goal.returns-in-Ok
returns-in-Ok g c =
    let run = c.run_query.ensures in
    let ask = ask_of c.in-Ok.request in
    let asked = c.in-Ok.ensures.asked in
    let words = map string_bytes c.args.words.now in
    let base = bytes_of c.args.base in
    let remaining = g.R.Read.remaining (inner_of c.args.reader.now) in
    record {
      statuses = status_wider _ run.statuses;
      done = λ zero. if_some_then remaining _ _
          (λ input h. plan_written words ask base input _ _ asked h) (run.done zero);
      untold = run.untold;
      refused =
          λ one. if_some_then remaining _ _ (λ input told. (ask, asked, told)) (run.refused one);
      wrong = λ wrong. absurd (never_wrong _ run.statuses wrong);
      right = λ other more none. some_asked _ ask asked none;
      unread = λ wrong. absurd (never_wrong _ run.statuses wrong);
      failed = run.failed;
      read = run.read;
      written = run.written;
      begun = λ failed. elim (run.begun failed) [
        | inl same ↦ inl same
        | inr front ↦
            inr (if_some_then remaining _ _ (λ input h. plan_begun words ask base input _ _ asked h)
            front)
      ];
      unwritten = λ cases. elim cases [
        | inl one ↦ run.unwritten one
        | inr wrong ↦ absurd (never_wrong _ run.statuses wrong)
      ];
      first = run.first;
      based = run.based;
      untrue = λ one wrong. (ask, asked, run.untrue one wrong);
      within = run.within;
      end = run.end;
      taken = run.taken;
    }
