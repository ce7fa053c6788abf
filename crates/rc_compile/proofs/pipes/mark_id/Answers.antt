use Rattle.std.proofs.Common.{◌∙◌, ⊎_elim, inl, inr, sym, subst, true≢false}
use Rattle.rc_model.specs.Names.{Has}
use Rattle.rc_model.proofs.SetMembers.{has_or_lacks}
use Rattle.rc_compile.proofs.pipes.mark_id.Goals as goal

pub returns-then-not-insert-clause-shared : goal.returns-then-not-insert-clause-shared
returns-then-not-insert-clause-shared c s =
    let had : Has c.args.seen.now c.args.id =
    ⊎_elim (λ has. has)
    (λ lacks. absurd (true≢false (sym (c.insert.ensures.fresh.1 lacks) ∙ c.if-not-insert.true)))
    (has_or_lacks c.args.seen.now c.args.id) in (
      λ has. ⊎_elim (λ old. inl old)
          (λ same. inr (subst (Has c.args.seen.now) (sym same) had, same))
          ((c.insert-then-not-insert.ensures.members s).0 has),
      λ cases. (c.insert-then-not-insert.ensures.members s).1
          (⊎_elim (λ old. inl old) (λ (has, same). inr same) cases),
    )

pub returns-else-not-insert-clause-shared : goal.returns-else-not-insert-clause-shared
returns-else-not-insert-clause-shared c s = (
  λ old. inl old,
  λ cases. ⊎_elim (λ old. old)
      (λ (has, same). absurd
      (c.insert.ensures.fresh.0 c.if-not-insert.false (subst (Has c.args.seen.now) same has)))
      cases,
)
