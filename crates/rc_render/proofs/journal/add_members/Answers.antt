use Rattle.std.proofs.Common.{◌≡◌, ◌∙◌, ◌<◌, ◌++◌, ℕ, List, length, ap, sym, take, false, true}
use Rattle.std.proofs.Common.{arith}
use Rattle.std.specs.List.{join_with_byte}
use Rattle.rc_render.specs.Names.{names_in}
use Rattle.rc_render.proofs.NameLemmas.{is_none, none_more, names_in_has, names_in_lacks}
use Rattle.rc_render.proofs.NameLemmas.{names_in_all}
use Rattle.rc_render.proofs.JournalLemmas.{member_more}
use Rattle.rc_render.proofs.journal.add_members.Goals as goal
use Rattle.rc_render.proofs.journal.add_members.Goals.{then-contains+in_ok-add_member}
use Rattle.rc_render.proofs.journal.add_members.Goals.{else-contains}

pub loop-id-preserved : goal.loop-id-preserved
loop-id-preserved c =
    let i = c.loop-id.id in
    let names = c.args.names.now in
    let set = c.args.set.now in
    let low : c.loop-id.id < length c.args.names.now = omega arith in
    let within : c.loop-id.id < length c.args.set.now = omega arith in
    elim c.if-contains.branch [
      | then-contains+in_ok-add_member w ↦
          let more = names_in_has names set i w.name_of.result.now w.name_of.ensures
          (c.contains.ensures.0 w.if-contains.true) in
          rw (w.text-is, w.is_first-is) (
            member_more w.add_member.new.text.items c.loop-id.text.items c.args.text.now.items
                w.name_of.result.now c.loop-id.is_first (names_in (take i names) (take i set)) _
                w.in_ok-add_member.ensures c.loop-id.invariant.0 c.loop-id.invariant.1 more,
            sym (ap is_none more ∙ none_more (names_in (take i names) (take i set))
                w.name_of.result.now),
          )
      | else-contains w ↦
          let same = names_in_lacks names set i low within (λ has. let bad : false ≡ true =
          sym w.if-contains.false ∙ c.contains.ensures.1 has in cc) in
          rw (w.text-is, w.is_first-is) (
            c.loop-id.invariant.0
                ∙ ap (λ (xs : List (List ℕ)). c.args.text.now.items ++ join_with_byte 44 xs)
                (sym same),
            c.loop-id.invariant.1 ∙ ap is_none (sym same),
          )
    ]

pub returns : goal.returns
returns c =
    c.loop-id.invariant.0
    ∙ ap (λ (xs : List (List ℕ)). c.args.text.now.items ++ join_with_byte 44 xs)
    (names_in_all c.args.names.now c.args.set.now c.loop-id.id (λ l w. omega arith))
