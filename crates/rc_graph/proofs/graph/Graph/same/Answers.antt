use Rattle.std.proofs.Common.{◌≡◌, ◌∙◌, ◌↔◌, IsTrue, ap, sym, rules}
use Rattle.std.specs.Arc.{arc_value}
use Rattle.rc_graph.specs.Flat.{flat_of}
use Rattle.rc_graph.specs.Rows.{rows}
use Rattle.rc_graph.proofs.Flattening.{flat_determines}
use Rattle.rc_graph.proofs.graph.Graph.same.Goals as goal

pub returns : goal.returns
returns c =
    let compared : IsTrue c.eq.result ↔ (c.as_slice.result.now ≡ c.as_slice-2.result.now) =
    search rules in
    let mine : c.as_slice.result.now ≡ flat_of (rows (arc_value c.self.inside.lists).needs.items) =
    c.as_slice.ensures.value ∙ (ap (λ lists. lists.flat.items) c.deref.ensures
    ∙ c.self.invariant.flat) in
    let its : c.as_slice-2.result.now
    ≡ flat_of (rows (arc_value c.other.inside.lists).needs.items) =
    c.as_slice-2.ensures.value ∙ (ap (λ lists. lists.flat.items) c.deref-2.ensures
    ∙ c.other.invariant.flat) in (
      λ yes. sym c.self.view_is
          ∙ (flat_determines _ _ (sym mine ∙ (compared.0 yes ∙ its)) ∙ c.other.view_is),
      λ same. compared.1
          (mine ∙ (ap flat_of (c.self.view_is ∙ (same ∙ sym c.other.view_is)) ∙ sym its)),
    )
