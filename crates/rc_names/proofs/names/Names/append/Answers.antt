use Rattle.std.proofs.Common.{◌∙◌}
use Rattle.std.specs.String.{string_bytes}
use Rattle.rc_names.proofs.Appending.{last_after}
use Rattle.rc_names.proofs.names.Names.append.Goals as goal

pub invariant_of-self-2 : goal.invariant_of-self-2
invariant_of-self-2 c =
    let after = last_after string_bytes c.self.inside.table.entries c.insert.new.self.entries
    c.in_ok-key.key c.args.self.now c.args.name c.self.view_is c.self.invariant.0
    c.self.invariant.1 c.requires.room c.text.ensures.name
    (c.in_ok-key.ensures.ok ∙ c.text.ensures.bytes) c.requires.last
    c.in_ok-insert.ensures.entries in
    (after.shown, after.names)

pub returns-clause-added : goal.returns-clause-added
returns-clause-added c =
    let after = last_after string_bytes c.self.inside.table.entries c.insert.new.self.entries
    c.in_ok-key.key c.args.self.now c.args.name c.self.view_is c.self.invariant.0
    c.self.invariant.1 c.requires.room c.text.ensures.name
    (c.in_ok-key.ensures.ok ∙ c.text.ensures.bytes) c.requires.last
    c.in_ok-insert.ensures.entries in
    after.is
