use Rattle.std.proofs.Common.{◌∙◌, ⊎_elim, inl, inr, sym}
use Rattle.rc_select.proofs.sides.raised.Goals as goal

pub join-requires : goal.join-requires
join-requires c = c.requires.up_bound ∙ sym c.in_ok-target.ensures.bound

pub returns : goal.returns
returns c = record {
  leads = λ s. (
    λ has. ⊎_elim (λ more. inr ((c.in_ok-target.ensures.members s).0 more)) (λ up. inl up)
        ((c.join.ensures.members s).0 has),
    λ target. (c.join.ensures.members s).1
        (⊎_elim (λ up. inr up) (λ more. inl ((c.in_ok-target.ensures.members s).1 more)) target),
  );
  keeps = λ s. (λ has. absurd (c.in_ok-kept.ensures.members s has), λ none. absurd none);
  target_bound = c.join.ensures.bound ∙ c.in_ok-target.ensures.bound;
  kept_bound = c.in_ok-kept.ensures.bound ∙ c.len.ensures.count;
}
