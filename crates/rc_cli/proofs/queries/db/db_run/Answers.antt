-- `db` with its words, over readers and writers. If the words are wrong, nothing is read. If they
-- ask a question, each clause of `run_query` is turned from the query to the words that ask it. The
-- input of `db` ends behind the database text, so the clauses on what was read differ from those of
-- `plan` (`alone_end` and its like).
use Rattle.std.proofs.Common.{None, false, inl, inr, map, string_bytes}
use Rattle.rc_args.specs.DbAsked.{db_ask_of}
use Rattle.rc_dbtext.specs.Base.{bytes_of}
use Rattle.rc_streams.specs.Noting.{inner_of}
use Rattle.rc_cli.specs.Queries.{input_of}
use Rattle.rc_cli.proofs.QueryLemmas.{alone_end, alone_failed, alone_unread, alone_within}
use Rattle.rc_cli.proofs.QueryLemmas.{if_some_then}
use Rattle.rc_cli.proofs.RunLemmas.{answer_begun, answer_written, never_wrong, status_wider}
use Rattle.rc_cli.proofs.queries.db.db_run.Goals as goal

pub returns-in-Ok : goal.returns-in-Ok
returns-in-Ok g c =
    let run = c.run_query.ensures in
    let ask = db_ask_of c.in-Ok.request in
    let asked = c.in-Ok.ensures.asked in
    let words = map string_bytes c.args.words.now in
    let base = bytes_of c.args.base in
    let remaining = g.R.Read.remaining (inner_of c.args.reader.now) in
    let input = input_of false base remaining in
    record {
      statuses = status_wider _ run.statuses;
      done = λ zero. if_some_then input _ _
          (λ all h. answer_written words ask base None all _ _ asked h) (run.done zero);
      untold = run.untold;
      refused = λ one. if_some_then input _ _ (λ all told. (ask, asked, told)) (run.refused one);
      wrong = λ wrong. absurd (never_wrong _ run.statuses wrong);
      right = λ other more. (ask, asked);
      unread = λ wrong. absurd (never_wrong _ run.statuses wrong);
      failed = λ failed. alone_failed base remaining _ _ _ _ (run.failed failed);
      read = run.read;
      written = run.written;
      begun = λ failed. elim (run.begun failed) [
        | inl same ↦ inl same
        | inr front ↦ inr (if_some_then input _ _
            (λ all h. answer_begun words ask base None all _ _ asked h) front)
      ];
      unwritten = λ cases. elim cases [
        | inl one ↦ run.unwritten one
        | inr wrong ↦ absurd (never_wrong _ run.statuses wrong)
      ];
      base = λ some. run.unread (alone_unread base some);
      within = λ ended. alone_within base remaining (run.within ended);
      end = λ ended none. alone_end base _ (run.end ended) none;
      taken = run.taken;
    }

pub returns-in-Err-clause-wrong : goal.returns-in-Err-clause-wrong
returns-in-Err-clause-wrong g c told = c.in-Err.ensures.wrong (c.tell_words.ensures.wrong told)
