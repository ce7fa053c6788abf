use Rattle.std.proofs.Common.{◌∙◌, ◌++◌, ℕ, List, Contains, ap, sym, subst}
use Rattle.std.specs.List.{flat_map}
use Rattle.rc_model.specs.Names.{Holds}
use Rattle.rc_model.specs.Line.{Alteration}
use Rattle.rc_render.specs.JournalText.{AreMoves, alteration_text, signs}
use Rattle.rc_render.proofs.JournalLemmas.{gained_below, gained_held, joined_line}
use Rattle.rc_render.proofs.journal.entry_line.Goals as goal

pub set_of-requires-clause-ids : goal.set_of-requires-clause-ids
set_of-requires-clause-ids c =
    let (from, to, is) = c.requires in
    rw c.raised.ensures
    (gained_below from.live to.live c.args.entry.now.raised _ is.exact.raised
    (is.after ∙ sym c.len.ensures.len))

pub set_of-requires-2-clause-ids : goal.set_of-requires-2-clause-ids
set_of-requires-2-clause-ids c =
    let (from, to, is) = c.requires in
    rw c.lowered.ensures
    (gained_below to.live from.live c.args.entry.now.lowered _ is.exact.lowered
    (is.before ∙ sym c.len-2.ensures.len))

pub returns : goal.returns
returns c = λ from to is.
    let up = c.in_ok-up.up in
    let down = c.in_ok-down.down in
    let long = sym (c.in_ok-up.ensures.bound ∙ c.len.ensures.len) in
    let moves : AreMoves from.live to.live c.in_ok-up.up c.in_ok-down.down = record {
      up =
          gained_held from.live to.live up c.args.entry.now.raised is.exact.raised
          (subst (λ (ids : List ℕ). Holds up (Contains ids)) c.raised.ensures
          c.in_ok-up.ensures.members);
      down =
          gained_held to.live from.live down c.args.entry.now.lowered is.exact.lowered
          (subst (λ (ids : List ℕ). Holds down (Contains ids)) c.lowered.ensures
          c.in_ok-down.ensures.members);
      before = is.before ∙ long;
      after = is.after ∙ long;
    } in
    let altered : List Alteration → List ℕ = flat_map (alteration_text c.args.names.now) in (
      c.args.entry.now.edit,
      is.exact.edit,
      joined_line c.push.new.self.items c.add_edit.new.text.items c.add_signs.new.text.items
          c.in_ok-text.text.items _ (signs c.args.names.now from.live to.live)
          (altered c.args.entry.now.edit)
          c.in_ok-push.ensures.items
          (c.in_ok-add_edit.ensures
          ∙ ap (λ (edit : List Alteration). c.add_signs.new.text.items ++ altered edit)
          c.edit.ensures)
          (c.in_ok-add_signs.ensures from.live to.live moves)
          c.in_ok-text.ensures,
    )
