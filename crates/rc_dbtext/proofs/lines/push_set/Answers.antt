use Rattle.std.proofs.Common.{◌≡◌, ◌∙◌, ◌<◌, ◌++◌, ℕ, List, All, length, map, sym, ap, subst}
use Rattle.rc_dbtext.specs.Lines.{words_after_spaces}
use Rattle.rc_dbtext.specs.Spelling.{members, name_at}
use Rattle.rc_dbtext.proofs.Writing.{ids_low, same_members}
use Rattle.rc_dbtext.proofs.lines.push_set.Goals as goal

pub push_ids-requires : goal.push_ids-requires
push_ids-requires c =
    let P : List ℕ → Type 0 = λ ids. All (λ t. t < length c.args.names.now) ids in
    subst P (sym c.as_slice.ensures.value)
    (ids_low c.args.names.now c.len-count.ensures.names.order c.args.set.now c.in_ok-ids.ids.items
    c.requires c.in_ok-ids.ensures)

pub returns-clause-written : goal.returns-clause-written
returns-clause-written c =
    let named : map (name_at c.args.names.now) c.in_ok-ids.ids.items
    ≡ map (name_at c.args.names.now) (members c.args.set.now) =
    same_members c.args.names.now c.len-count.ensures.names.order c.args.set.now
    c.in_ok-ids.ids.items c.requires c.in_ok-ids.ensures in
    c.in_ok-push_ids.ensures.written
    ∙ ap (λ (l : List (List ℕ)). c.args.out.now.items ++ words_after_spaces l)
    (ap (map (name_at c.args.names.now)) c.as_slice.ensures.value ∙ named)
