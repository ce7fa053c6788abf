use Rattle.std.proofs.Common.{◌≡◌, ◌∙◌, ℕ, List, All, length, refl, sym, ap, subst}
use Rattle.std.proofs.lemmas.Bool.{false≢true}
use Rattle.rc_line.specs.State.{states_of}
use Rattle.rc_livetext.specs.Text.{LiveText}
use Rattle.rc_livetext.specs.Meaning.{IsKnownState, all_states}
use Rattle.rc_livetext.specs.Parts.{IsWithin, state_texts}
use Rattle.rc_livetext.proofs.read.line_of.Goals as goal

pub returns-then-not-are_services-clause-fault : goal.returns-then-not-are_services-clause-fault
returns-then-not-are_services-clause-fault c = λ passes.
    let given : c.as_slice.result.now ≡ c.args.form.now.services =
    c.as_slice.ensures.value ∙ ap (λ (t : LiveText). t.services) c.form.view_is in
    false≢true (c.if-not-are_services.ensures.1
    (given ∙ passes.services ∙ sym c.names-names.ensures.names))

pub returns-in-Ok-None-clause-fault : goal.returns-in-Ok-None-clause-fault
returns-in-Ok-None-clause-fault c =
    let given : c.as_slice.result.now ≡ c.args.form.now.services =
    c.as_slice.ensures.value ∙ ap (λ (t : LiveText). t.services) c.form.view_is in
    let Known : List (List ℕ) → Type 0 =
    λ ns. All (IsKnownState ns) (all_states c.args.form.now) in
    let unknown = rw c.in-Ok-None.field-0-is at c.in-Ok-None.ensures.unknown in (
      record {
        services = sym given ∙ c.if-not-are_services.ensures.0 refl ∙ c.names-names.ensures.names;
      },
      λ known. unknown (subst Known (sym c.names-names.ensures.names) known),
    )

pub joined-requires-clause-names : goal.joined-requires-clause-names
joined-requires-clause-names c =
    let given : c.as_slice.result.now ≡ c.args.form.now.services =
    c.as_slice.ensures.value ∙ ap (λ (t : LiveText). t.services) c.form.view_is in
    let Known : List (List ℕ) → Type 0 =
    λ ns. All (IsKnownState ns) (all_states c.args.form.now) in
    record {
      before = record {
        services = sym given ∙ c.if-not-are_services.ensures.0 refl ∙ c.names-names.ensures.names;
      };
      known = subst Known c.names-names.ensures.names
          (rw c.in-Ok-Some.field-0-is at c.in-Ok-Some.ensures.known);
    }

pub joined-requires-clause-says : goal.joined-requires-clause-says
joined-requires-clause-says c =
    subst (λ (ns : List (List ℕ)). state_texts ns c.in-Ok-Some.held.items
    ≡ all_states c.args.form.now) c.names-names.ensures.names
    (rw c.in-Ok-Some.field-0-is at c.in-Ok-Some.ensures.says)

pub joined-requires-clause-sets : goal.joined-requires-clause-sets
joined-requires-clause-sets c =
    subst (λ (ns : List (List ℕ)). All (IsWithin (length ns)) (states_of c.in-Ok-Some.held.items))
    c.names-names.ensures.names
    (rw c.in-Ok-Some.field-0-is at c.in-Ok-Some.ensures.sets)
