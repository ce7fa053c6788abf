use Rattle.std.proofs.Common.{◌≡◌, ◌++◌, drop}
use Rattle.std.specs.List.{flat_map}
use Rattle.rc_cli.specs.Failures.{failure_line, failures_of, text_of}
use Rattle.rc_cli.proofs.failures.text_of.Given as goal

-- the text is what is written so far, and then the lines of the rest
abbrev pub invariant-loop-place : goal.invariant-loop-place
invariant-loop-place l = text_of (failures_of l.failures)
    ≡ l.text.items ++ flat_map failure_line (failures_of (drop l.place l.failures))
