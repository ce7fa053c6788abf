use Rattle.std.proofs.Common.{◌∙◌, Bool, List, length, ap, subst}
use Rattle.rc_model.specs.Names.{Has, Holds}
use Rattle.rc_model.specs.Graph.{UpFrom, DownFrom}
use Rattle.rc_select.proofs.SidesLemmas.{left_over}
use Rattle.rc_select.proofs.sides.lowered.Goals as goal

pub returns : goal.returns
returns c =
    let needs = c.args.graph.now in
    let goes = DownFrom needs (Has c.args.wanted.now) in
    let held = UpFrom needs (Has c.args.essential.now) in
    record {
      leads =
          left_over (Has c.args.up.now) goes held _ _ _ _ c.in_ok-gone.ensures.members
          c.in_ok-held.ensures.members c.without.ensures.members
          (subst (λ (set : List Bool). Holds c.without-2.new.self
          (λ s. Has set s × (Has c.without.new.self s → ⊥))) c.in_ok-target.ensures
          c.without-2.ensures.members);
      keeps = λ s. (
        λ has. let h = (c.in_ok-kept.ensures.members s).0 has in
            (h.0, (c.in_ok-gone.ensures.members s).0 h.1),
        λ h. (c.in_ok-kept.ensures.members s).1 (h.0, (c.in_ok-gone.ensures.members s).1 h.1),
      );
      target_bound =
          c.without-2.ensures.bound ∙ ap length c.in_ok-target.ensures ∙ c.requires.up_bound;
      kept_bound = c.in_ok-kept.ensures.bound ∙ c.requires.essential_bound;
    }
