use Rattle.std.proofs.Common.{map, ap, subst, string_bytes, OnOk}
use Rattle.rc_names.specs.Names.{Adds}
use Rattle.rc_source.proofs.memory_tree.MemoryTree.put.Goals as goal

pub returns-clause-entries : goal.returns-clause-entries
returns-clause-entries c =
    let now = map string_bytes c.put_file.new.entries.keys in
    let put =
    subst (λ name. OnOk c.put_file.result
    (Adds (map string_bytes c.self.inside.entries.keys) name now)) c.in_ok-service.ensures.ok
    c.put_file.ensures.entries in
    subst (λ old. OnOk c.put_file.result (Adds old c.args.service.now now))
    (ap (λ s. s.entries) c.self.view_is) put
