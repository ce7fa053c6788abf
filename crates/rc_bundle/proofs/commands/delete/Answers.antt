use Rattle.rc_bundle.proofs.commands.delete.Goals as goal

pub returns-clause-bundles : goal.returns-clause-bundles
returns-clause-bundles c = c.in_ok-new.ensures.bounds _ c.requires.bundles
