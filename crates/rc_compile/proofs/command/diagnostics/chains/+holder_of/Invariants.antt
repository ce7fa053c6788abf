use Rattle.rc_compile.proofs.command.diagnostics.chains.+holder_of.Given as goal

-- one bundle less may be looked into
abbrev pub decreases-holder_of : goal.decreases-holder_of
decreases-holder_of l = l.depth
