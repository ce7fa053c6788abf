use Rattle.std.proofs.Common.{◌≡◌, ◌∙◌, ℕ, List, All, Contains, sym, ap, subst}
use Rattle.rc_dbtext.specs.Text.{ServiceText, DbText}
use Rattle.rc_dbtext.specs.Meaning.{service_names}
use Rattle.rc_dbtext.specs.Parts.{AreNeedsOf}
use Rattle.rc_dbtext.proofs.Completing.{known_needs}
use Rattle.rc_dbtext.proofs.Drafting.{cycle_by_name}
use Rattle.rc_dbtext.proofs.read.db_of.Goals as goal

pub returns-in-Ok-None-clause-fault : goal.returns-in-Ok-None-clause-fault
returns-in-Ok-None-clause-fault c =
    let first : c.as_slice.result.now ≡ c.args.form.now.services =
    c.as_slice.ensures.value ∙ ap (λ (t : DbText). t.services) c.form.view_is in
    let second : c.as_slice-2.result.now ≡ c.args.form.now.services =
    c.as_slice-2.ensures.value ∙ ap (λ (t : DbText). t.services) c.form.view_is in
    let named : c.in-Ok.names ≡ service_names c.args.form.now.services =
    c.in-Ok.ensures ∙ ap service_names first in
    let P : List ServiceText → List (List ℕ) → Type 0 =
    λ services names. All (λ s. All (Contains names) s.needs) services in
    let none = rw c.in-Ok-None.field-0-is at c.in-Ok-None.ensures in (
      c.is_sorted.ensures.0 c.if-not-is_sorted.false,
      λ complete. none (subst (λ (services : List ServiceText). P services c.in-Ok.names)
          (sym second) (subst (P c.args.form.now.services) (sym named) complete.needs)),
    )

pub is_complete-requires-clause-known : goal.is_complete-requires-clause-known
is_complete-requires-clause-known c =
    let second : c.as_slice-2.result.now ≡ c.args.form.now.services =
    c.as_slice-2.ensures.value ∙ ap (λ (t : DbText). t.services) c.form.view_is in
    let made = rw c.in-Ok-Some.field-0-is at c.in-Ok-Some.ensures in
    known_needs c.in-Ok.names c.as_slice-2.result.now c.args.form.now.services second made.0

pub returns-in-Ok-None-graph_of-clause-fault : goal.returns-in-Ok-None-graph_of-clause-fault
returns-in-Ok-None-graph_of-clause-fault c =
    let first : c.as_slice.result.now ≡ c.args.form.now.services =
    c.as_slice.ensures.value ∙ ap (λ (t : DbText). t.services) c.form.view_is in
    let second : c.as_slice-2.result.now ≡ c.args.form.now.services =
    c.as_slice-2.ensures.value ∙ ap (λ (t : DbText). t.services) c.form.view_is in
    let named : c.in-Ok.names ≡ service_names c.args.form.now.services =
    c.in-Ok.ensures ∙ ap service_names first in
    let made = rw c.in-Ok-Some.field-0-is at c.in-Ok-Some.ensures in
    let needs : AreNeedsOf c.in-Ok.names c.args.form.now.services c.in-Ok-Some.draft =
    subst (λ (services : List ServiceText). AreNeedsOf c.in-Ok.names services c.in-Ok-Some.draft)
    second made.1 in
    let cycle = rw c.in-Ok-None-graph_of.field-0-is at c.in-Ok-None-graph_of.ensures in (
      c.is_sorted.ensures.0 c.if-not-is_sorted.false,
      c.is_complete.ensures.0 c.if-not-is_complete.false,
      cycle_by_name c.in-Ok.names c.args.form.now.services c.in-Ok-Some.draft named needs cycle.0
          cycle.1,
    )
