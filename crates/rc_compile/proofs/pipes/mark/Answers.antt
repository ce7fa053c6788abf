use Rattle.std.proofs.Common.{◌≡◌, ◌⊎◌, ⊎_elim, inl, inr, slice_get, Some, Contains, sym, subst}
use Rattle.rc_model.specs.Names.{Has}
use Rattle.rc_source.specs.Said.{meaning_of}
use Rattle.rc_compile.specs.Book.{GivesAt}
use Rattle.rc_compile.proofs.Sharing.{holds_as, gives_at, gives_nowhere}
use Rattle.rc_compile.proofs.pipes.mark.Goals as goal

pub returns-in-Some-find-clause-seen : goal.returns-in-Some-find-clause-seen
returns-in-Some-find-clause-seen c =
    let names = c.args.bundles.now in
    let m = meaning_of c.args.definition.now in
    let id = c.in-Some-find.id in
    let at : slice_get names id ≡ Some c.in-Some.name.now =
    cc (c.in-Some-find.ensures.found, c.text.ensures.bytes) in
    let one = gives_at names m c.in-Some.name.now id c.len-count.ensures.names.order
    c.in-Some.ensures.some at in
    holds_as c.mark_id.new.seen (λ s. Has c.args.seen.now s ⊎ (s ≡ id))
    (λ s. Has c.args.seen.now s ⊎ GivesAt names m s) c.mark_id.ensures.seen
    (λ s. (
      λ cases. ⊎_elim (λ old. inl old) (λ same. inr ((one s).1 same)) cases,
      λ cases. ⊎_elim (λ old. inl old) (λ gives. inr ((one s).0 gives)) cases,
    ))

pub returns-in-Some-find-clause-shared : goal.returns-in-Some-find-clause-shared
returns-in-Some-find-clause-shared c =
    let names = c.args.bundles.now in
    let m = meaning_of c.args.definition.now in
    let id = c.in-Some-find.id in
    let at : slice_get names id ≡ Some c.in-Some.name.now =
    cc (c.in-Some-find.ensures.found, c.text.ensures.bytes) in
    let one = gives_at names m c.in-Some.name.now id c.len-count.ensures.names.order
    c.in-Some.ensures.some at in
    holds_as c.mark_id.new.shared
    (λ s. Has c.args.shared.now s ⊎ (Has c.args.seen.now s × (s ≡ id)))
    (λ s. Has c.args.shared.now s ⊎ (Has c.args.seen.now s × GivesAt names m s))
    c.mark_id.ensures.shared
    (λ s. (
      λ cases. ⊎_elim (λ old. inl old) (λ (had, same). inr (had, (one s).1 same)) cases,
      λ cases. ⊎_elim (λ old. inl old) (λ (had, gives). inr (had, (one s).0 gives)) cases,
    ))

pub returns-in_default-find-clause-seen : goal.returns-in_default-find-clause-seen
returns-in_default-find-clause-seen c s =
    let missing : Contains c.args.bundles.now c.in-Some.name.now
    → ⊥ = λ there. c.in_default-find.ensures.missing
    (subst (Contains c.args.bundles.now) (sym c.text.ensures.bytes) there) in (
      λ has. inl has,
      λ cases. ⊎_elim (λ old. old)
          (λ gives. absurd
          (gives_nowhere c.args.bundles.now (meaning_of c.args.definition.now) c.in-Some.name.now
          c.in-Some.ensures.some missing s gives)) cases,
    )

pub returns-in_default-find-clause-shared : goal.returns-in_default-find-clause-shared
returns-in_default-find-clause-shared c s =
    let missing : Contains c.args.bundles.now c.in-Some.name.now
    → ⊥ = λ there. c.in_default-find.ensures.missing
    (subst (Contains c.args.bundles.now) (sym c.text.ensures.bytes) there) in (
      λ has. inl has,
      λ cases. ⊎_elim (λ old. old)
          (λ (had, gives). absurd
          (gives_nowhere c.args.bundles.now (meaning_of c.args.definition.now) c.in-Some.name.now
          c.in-Some.ensures.some missing s gives)) cases,
    )

pub returns-in_default-clause-seen : goal.returns-in_default-clause-seen
returns-in_default-clause-seen c s = (
  λ has. inl has,
  λ cases. ⊎_elim (λ old. old) (λ (n, at, gives). absurd (c.in_default.ensures.none n gives)) cases,
)

pub returns-in_default-clause-shared : goal.returns-in_default-clause-shared
returns-in_default-clause-shared c s = (
  λ has. inl has,
  λ cases. ⊎_elim (λ old. old) (λ (had, (n, at, gives)). absurd (c.in_default.ensures.none n gives))
      cases,
)
