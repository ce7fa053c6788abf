use Rattle.std.proofs.Common.{◌≡◌, ◌∙◌, ◌<◌, ◌++◌, ℕ, List, length, ap, sym, take, false, true}
use Rattle.std.proofs.Common.{arith}
use Rattle.std.specs.List.{flat_map}
use Rattle.rc_model.proofs.Lists.{one_more, grown}
use Rattle.rc_render.specs.DotText.{edge_line, edge_lines, member_end}
use Rattle.rc_render.specs.Names.{names_in}
use Rattle.rc_render.proofs.NameLemmas.{names_in_has, names_in_lacks, names_in_all}
use Rattle.rc_render.proofs.dot.add_members.Goals as goal
use Rattle.rc_render.proofs.dot.add_members.Goals.{then-contains+in_ok-add_edge, else-contains}

pub loop-id-preserved : goal.loop-id-preserved
loop-id-preserved c =
    let i = c.loop-id.id in
    let names = c.args.names.now in
    let set = c.args.set.now in
    let edge = edge_line member_end c.args.name.now in
    let low : c.loop-id.id < length c.args.names.now = omega arith in
    let within : c.loop-id.id < length c.args.set.now = omega arith in
    elim c.if-contains.branch [
      | then-contains+in_ok-add_edge w ↦ rw w.text-is (
          grown w.add_edge.new.text.items c.loop-id.text.items c.args.text.now.items
          (flat_map edge (names_in (take i names) (take i set))) _ (edge w.name_of.result.now)
          w.in_ok-add_edge.ensures c.loop-id.invariant
          (ap (flat_map edge)
          (names_in_has names set i w.name_of.result.now w.name_of.ensures
          (c.contains.ensures.0 w.if-contains.true))
          ∙ one_more edge (names_in (take i names) (take i set)) w.name_of.result.now))
      | else-contains w ↦ rw w.text-is (c.loop-id.invariant
          ∙ ap (λ (xs : List (List ℕ)). c.args.text.now.items ++ edge_lines member_end
          c.args.name.now xs) (sym (names_in_lacks names set i low within
          (λ has. let bad : false ≡ true = sym w.if-contains.false ∙ c.contains.ensures.1 has in
          cc))))
    ]

pub returns : goal.returns
returns c =
    c.loop-id.invariant
    ∙ ap (λ (xs : List (List ℕ)). c.args.text.now.items ++ edge_lines member_end c.args.name.now xs)
    (names_in_all c.args.names.now c.args.set.now c.loop-id.id (λ l w. omega arith))
