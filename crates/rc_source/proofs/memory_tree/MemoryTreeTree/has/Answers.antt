use Rattle.std.proofs.Common.{◌↔◌, subst, ◌∙◌, string_bytes}
use Rattle.std.specs.Bool.{IsTrue}
use Rattle.std.specs.Option.{IsSome}
use Rattle.rc_source.specs.Tree.{Source, path_of, value_at}
use Rattle.rc_source.specs.Shown.{shown_files}
use Rattle.rc_source.proofs.Known.{of_known, some_iff}
use Rattle.rc_source.proofs.TextSets.{value_at-shown}
use Rattle.rc_source.proofs.memory_tree.MemoryTreeTree.has.Goals as goal

pub returns-clause-there : goal.returns-clause-there
returns-clause-there c =
    let P : Source → Type 0 = λ source. IsTrue c.contains_key.result
    ↔ IsSome (value_at source.files (path_of c.args.service.now c.args.file.now)) in
    let files = c.self.inside.files.entries in
    let at = some_iff (λ v. v.items) c.contains_key.result _ _ c.contains_key.ensures
    (value_at-shown string_bytes (λ v. v.items) files c.as_str.result.now) in
    of_known P c.args.self.now (subst P c.self.view_is
    (subst (λ path. IsTrue c.contains_key.result ↔ IsSome (value_at (shown_files files) path))
    (c.as_str.ensures.value ∙ c.in_ok-path.ensures) at))
