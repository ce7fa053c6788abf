-- What is gone from `rest` was written.
use Rattle.std.proofs.Common.{◌≡◌, ℕ, List, ◌++◌, length}
use Rattle.std.specs.Io.KnownBytes.{Appends}
use Rattle.rc_streams.specs.Noting.{HasFailed, inner_of}
use Rattle.rc_streams.proofs.writing.write_answer.Given as goal

abbrev pub invariant-loop-rest : goal.invariant-loop-rest
invariant-loop-rest g l = record {
  done : List ℕ;
  split : l.answer ≡ done ++ l.rest;
  written : Appends (g.W.Write.contents (inner_of l.initial.writer))
      (g.W.Write.contents (inner_of l.writer)) done;
  sound : HasFailed l.writer → HasFailed l.initial.writer;
}

abbrev pub decreases-loop-rest : goal.decreases-loop-rest
decreases-loop-rest g l = length l.rest
