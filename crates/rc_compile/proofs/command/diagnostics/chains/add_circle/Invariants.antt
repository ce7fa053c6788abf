use denote.Text.{Utf8}
use denote.Shadow.{shadow}
use Rattle.rc_compile.proofs.command.diagnostics.chains.add_circle.Given as goal

-- the names have an end, and the one before is text
abbrev pub invariant-loop-name : goal.invariant-loop-name
invariant-loop-name l =
    goal.iterator-loop-name.can_next l.name-iterator ×
    goal.iterator-loop-name.is_finite l.name-iterator ×
    shadow (Utf8 l.from)
