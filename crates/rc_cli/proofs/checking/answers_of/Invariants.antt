use Rattle.std.proofs.Common.{◌≡◌, length}
use Rattle.rc_cli.proofs.checking.answers_of.Given as goal

-- there is an answer about each service that is passed
abbrev pub invariant-loop-id : goal.invariant-loop-id
invariant-loop-id l = length l.answers.items ≡ l.id
