use Rattle.std.proofs.Common.{◌≡◌, ◌<◌, ℕ, List, length, Some, None, sym, ap, subst, ◌∙◌}
use Rattle.std.proofs.Common.{string_bytes, arith}
use Rattle.std.specs.Option.{option_map}
use Rattle.rc_source.specs.Tree.{Source, path_of, value_at}
use Rattle.rc_source.specs.TreeFaults.{IsTooLong}
use Rattle.rc_source.specs.Shown.{shown_files}
use Rattle.rc_source.proofs.Known.{of_known}
use Rattle.rc_source.proofs.TextSets.{value_at-shown}
use Rattle.rc_source.proofs.memory_tree.MemoryTreeTree.bytes.Goals as goal

pub returns-in_default-clause-file : goal.returns-in_default-clause-file
returns-in_default-clause-file c =
    let P : Source → Type 0 =
    λ source. value_at source.files (path_of c.args.service.now c.args.file.now) ≡ None in
    let files = c.self.inside.files.entries in
    let at = value_at-shown string_bytes (λ v. v.items) files c.as_str.result.now
    ∙ ap (option_map (λ v. v.items)) (sym c.in_default.ensures.value) in
    of_known P c.args.self.now
    (subst P c.self.view_is
    (subst (λ path. value_at (shown_files files) path ≡ None)
    (c.as_str.ensures.value ∙ c.in_ok-path.ensures) at))

pub returns-then-len-gt-MAX_FILE-clause-fault : goal.returns-then-len-gt-MAX_FILE-clause-fault
returns-then-len-gt-MAX_FILE-clause-fault c =
    let P : Source
    → Type 0 = λ source. (bytes : List ℕ)
    × (value_at source.files (path_of c.args.service.now c.args.file.now) ≡ Some bytes)
    × IsTooLong bytes in
    let files = c.self.inside.files.entries in
    let at = value_at-shown string_bytes (λ v. v.items) files c.as_str.result.now
    ∙ ap (option_map (λ v. v.items)) (sym c.in-Some.ensures.value) in
    let long : 65536 < length c.in-Some.bytes.now.items = omega (arith, c.in-Some.bytes.now.ok.0) in
    of_known P c.args.self.now
    (subst P c.self.view_is (
      c.in-Some.bytes.now.items,
      subst (λ path. value_at (shown_files files) path ≡ Some c.in-Some.bytes.now.items)
          (c.as_str.ensures.value ∙ c.in_ok-path.ensures) at,
      long,
    ))

pub returns-clause-file : goal.returns-clause-file
returns-clause-file c =
    let copy = c.in_ok-from_slice.field-0.items in
    let P : Source → Type 0 =
    λ source. value_at source.files (path_of c.args.service.now c.args.file.now) ≡ Some copy in
    let files = c.self.inside.files.entries in
    let at = value_at-shown string_bytes (λ v. v.items) files c.as_str.result.now
    ∙ ap (option_map (λ v. v.items)) (sym c.in-Some.ensures.value)
    ∙ ap Some (sym (c.in_ok-from_slice.ensures.items ∙ c.deref.ensures.value)) in
    of_known P c.args.self.now
    (subst P c.self.view_is
    (subst (λ path. value_at (shown_files files) path ≡ Some copy)
    (c.as_str.ensures.value ∙ c.in_ok-path.ensures) at))
