use Rattle.std.proofs.Common.{◌≡◌, ◌∙◌, map, sym}
use Rattle.rc_source.specs.Said.{meaning_of}
use Rattle.rc_compile.specs.Book.{HasSought}
use Rattle.rc_compile.proofs.Mentioned.{added_one}
use Rattle.rc_compile.proofs.scan.add_sought.Goals as goal

pub returns-in_ok-push : goal.returns-in_ok-push
returns-in_ok-push c =
    let name = c.args.definition.now.name in
    let Has : Type 0 = HasSought (map meaning_of c.args.definitions.now) c.args.sought name in
    let has : Has = c.in_ok-has_sought.ensures.0 c.if-branch.true in
    added_one c.args.names.now.items c.push.new.self.items c.in_ok-copy.field-0
    (λ s. (name ≡ s) × Has) c.in_ok-push.ensures.items
    (λ x. (
      λ (same, also). sym same ∙ sym c.in_ok-copy.ensures,
      λ same. (sym (same ∙ c.in_ok-copy.ensures), has),
    ))
