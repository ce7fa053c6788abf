use Rattle.std.proofs.Common.{map, ap, subst, string_bytes}
use Rattle.rc_names.specs.Names.{Adds}
use Rattle.rc_source.proofs.memory_tree.MemoryTree.folder.Goals as goal

pub returns-clause-entries : goal.returns-clause-entries
returns-clause-entries c =
    subst (λ old. Adds old c.args.service.now (map string_bytes c.add.new.set.keys))
    (ap (λ s. s.entries) c.self.view_is) c.in_ok-add.ensures.adds
