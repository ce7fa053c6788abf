use Rattle.std.proofs.Common.{◌∙◌, ap, length, sym}
use Rattle.rc_model.specs.Names.{Has}
use Rattle.rc_model.specs.Graph.{DownFrom}
use Rattle.rc_select.proofs.SidesLemmas.{without_those}
use Rattle.rc_select.proofs.sides.lowered_all.Goals as goal

pub without-requires : goal.without-requires
without-requires c =
    c.in_ok-down_of.ensures.bound ∙ sym c.requires.up_bound ∙ sym (ap length c.in_ok-target.ensures)

pub returns : goal.returns
returns c = record {
  leads =
      without_those (DownFrom c.args.graph.now (Has c.args.wanted.now)) c.args.up.now
      c.in_ok-target.target c.in_ok-down_of.field-0 c.without.new.self
      c.in_ok-target.ensures c.in_ok-down_of.ensures.members c.without.ensures.members;
  keeps = λ s. (λ has. absurd (c.in_ok-kept.ensures.members s has), λ none. absurd none);
  target_bound = c.without.ensures.bound ∙ ap length c.in_ok-target.ensures ∙ c.requires.up_bound;
  kept_bound = c.in_ok-kept.ensures.bound ∙ c.len.ensures.count;
}
