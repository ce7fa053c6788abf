use Rattle.std.proofs.Common.{◌∙◌, ap, length, sym}
use Rattle.rc_model.specs.Names.{Has}
use Rattle.rc_model.specs.Graph.{UpFrom}
use Rattle.rc_select.proofs.SidesLemmas.{joined, without_those}
use Rattle.rc_select.proofs.sides.pruned.Goals as goal

pub without-requires : goal.without-requires
without-requires c =
    c.in_ok-target.ensures.bound ∙ sym c.requires.essential_bound
    ∙ sym (ap length c.in_ok-kept.ensures)

pub join-requires : goal.join-requires
join-requires c = c.in_ok-up_of.ensures.bound ∙ sym c.in_ok-target.ensures.bound

pub returns : goal.returns
returns c =
    let wanted = UpFrom c.args.graph.now (Has c.args.wanted.now) in
    let held = UpFrom c.args.graph.now (Has c.args.essential.now) in
    record {
      leads =
          joined wanted held c.in_ok-target.target c.in_ok-up_of.field-0 c.join.new.self
          c.in_ok-target.ensures.members c.in_ok-up_of.ensures.members c.join.ensures.members;
      keeps =
          without_those wanted c.args.essential.now c.in_ok-kept.kept c.in_ok-target.target
          c.without.new.self c.in_ok-kept.ensures c.in_ok-target.ensures.members
          c.without.ensures.members;
      target_bound = c.join.ensures.bound ∙ c.in_ok-target.ensures.bound;
      kept_bound =
          c.without.ensures.bound ∙ ap length c.in_ok-kept.ensures ∙ c.requires.essential_bound;
    }
