use Rattle.std.proofs.Common.{◌≡◌, List, Bool, ℕ, Some, subst, sym, ap, ◌∙◌}
use Rattle.std.specs.Cmp.Lexicographic.{slice_cmp}
use Rattle.std.specs.List.{slice_get}
use Rattle.std.specs.Ordering.{nat_cmp}
use Rattle.std.specs.declared.cmp.Ordering.TheVariants.{Equal, Greater}
use Rattle.rc_model.specs.Names.{IsBefore}
use Rattle.rc_model.proofs.ByteOrder.{same_text}
use Rattle.rc_model.proofs.Texts.{before_from_after}
use Rattle.rc_bundle.proofs.edit.next_name.Goals as goal

pub returns-in-Equal : goal.returns-in-Equal
returns-in-Equal c =
    let tie : slice_cmp nat_cmp c.text.result.now c.text-2.result.now ≡ Equal =
    sym c.in-Equal.ensures in
    let same : c.at-2.result.0.now ≡ c.at-3.result.0.now = sym c.text.ensures.bytes
    ∙ same_text c.text.result.now c.text-2.result.now tie ∙ c.text-2.ensures.bytes in (
      c.at-2.ensures,
      subst (λ x. slice_get c.args.to.now c.args.j ≡ Some (x, c.at-3.result.1.now))
          (sym same) c.at-3.ensures,
    )

pub returns-in-Greater : goal.returns-in-Greater
returns-in-Greater c =
    let after : slice_cmp nat_cmp c.text.result.now c.text-2.result.now ≡ Greater =
    sym c.in-Greater.ensures in
    let before : IsBefore c.text-2.result.now c.text.result.now =
    before_from_after c.text.result.now c.text-2.result.now after in (
      c.at-3.ensures,
      λ name set at.
          let e : (name, set) ≡ (c.at-2.result.0.now, c.at-2.result.1.now) = cc in
          let there : name ≡ c.text.result.now =
          ap (λ (o : List ℕ × List Bool). o.0) e ∙ sym c.text.ensures.bytes in
          subst (IsBefore c.at-3.result.0.now) (sym there)
          (subst (λ x. IsBefore x c.text.result.now) c.text-2.ensures.bytes before),
    )
