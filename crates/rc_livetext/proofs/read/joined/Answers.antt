use Rattle.std.proofs.Common.{◌≡◌, ◌∙◌, ℕ, Bool, Option, List, IfSome, ◌<◌, length, rules}
use Rattle.std.proofs.Common.{refl, sym, ap, subst}
use Rattle.rc_model.specs.Database.{Bundles, Database}
use Rattle.rc_line.specs.State.{states_of}
use Rattle.rc_livetext.specs.Text.{LiveText}
use Rattle.rc_livetext.specs.declared.fault.LiveFault.{LiveFault}
use Rattle.rc_livetext.specs.Parts.{MakeLine, MakeNone}
use Rattle.rc_model.specs.Line.{DifferInTurn}
use Rattle.rc_livetext.specs.Text.{IsBound}
use Rattle.rc_livetext.proofs.Joined.{line_is, says, told}
use Rattle.rc_livetext.proofs.Makings.{cursor_within, few_held, one_bound, within_graph}
use Rattle.rc_livetext.proofs.read.joined.Goals as goal

pub returns-in-Err-clause-fault : goal.returns-in-Err-clause-fault
returns-in-Err-clause-fault c =
    let d : Database = c.args.db.now in
    let t : LiveText = c.args.form.now in
    let held : List (List Bool × Bundles) = c.args.held.items in
    let f : LiveFault = c.in-Err.fault in
    let bound : c.form.inside.bound ≡ t.bound = ap (λ (x : LiveText). x.bound) c.form.view_is in
    let Graph : List (List ℕ) → Type 0 = λ g. MakeNone g t.bound (states_of held) f in
    let Bound : Option ℕ → Type 0 = λ b. MakeNone c.graph.result.now b (states_of held) f in
    let Held : List (List Bool × Bundles) → Type 0 =
    λ ps. MakeNone c.graph.result.now c.form.inside.bound (states_of ps) f in
    told d c.names-names.ensures.database t (states_of held) c.requires.sets c.requires.says f
    c.requires.names (subst Graph c.graph.ensures.graph (subst Bound bound
    (subst Held c.as_slice.ensures.value c.in-Err.ensures.fault)))

pub returns-clause-text : goal.returns-clause-text
returns-clause-text c =
    let d : Database = c.args.db.now in
    let t : LiveText = c.args.form.now in
    let held : List (List Bool × Bundles) = c.args.held.items in
    let n : ℕ = c.in-Ok.bound in
    let bound : c.form.inside.bound ≡ t.bound = ap (λ (x : LiveText). x.bound) c.form.view_is in
    let Graph : List (List ℕ) → Type 0 = λ g. MakeLine g t.bound (states_of held) n in
    let Bound : Option ℕ → Type 0 = λ b. MakeLine c.graph.result.now b (states_of held) n in
    let Held : List (List Bool × Bundles) → Type 0 =
    λ ps. MakeLine c.graph.result.now c.form.inside.bound (states_of ps) n in
    let makes : MakeLine d.needs t.bound (states_of held) n =
    subst Graph c.graph.ensures.graph (subst Bound bound
    (subst Held c.as_slice.ensures.value c.in-Ok.ensures.line)) in
    let count : c.len.result ≡ length c.form.inside.before.items = search rules in
    says d c.names-names.ensures.database t (states_of held) c.requires.sets c.requires.says
    c.requires.names n makes c.in-Ok-from_states.line.line c.in-Ok-from_states.ensures.states
    (c.in-Ok-from_states.ensures.cursor ∙ count
    ∙ ap (λ (x : LiveText). length x.before) c.form.view_is)
    c.in-Ok-from_states.ensures.bound t.bound refl

pub returns-clause-line : goal.returns-clause-line
returns-clause-line c =
    let d : Database = c.args.db.now in
    let t : LiveText = c.args.form.now in
    let held : List (List Bool × Bundles) = c.args.held.items in
    let n : ℕ = c.in-Ok.bound in
    let bound : c.form.inside.bound ≡ t.bound = ap (λ (x : LiveText). x.bound) c.form.view_is in
    let Graph : List (List ℕ) → Type 0 = λ g. MakeLine g t.bound (states_of held) n in
    let Bound : Option ℕ → Type 0 = λ b. MakeLine c.graph.result.now b (states_of held) n in
    let Held : List (List Bool × Bundles) → Type 0 =
    λ ps. MakeLine c.graph.result.now c.form.inside.bound (states_of ps) n in
    let makes : MakeLine d.needs t.bound (states_of held) n =
    subst Graph c.graph.ensures.graph (subst Bound bound
    (subst Held c.as_slice.ensures.value c.in-Ok.ensures.line)) in
    let count : c.len.result ≡ length c.form.inside.before.items = search rules in (
      line_is d c.names-names.ensures.database t (states_of held) c.requires.sets c.requires.says
          c.requires.names n makes c.in-Ok-from_states.line.line
          c.in-Ok-from_states.ensures.states
          (c.in-Ok-from_states.ensures.cursor ∙ count
          ∙ ap (λ (x : LiveText). length x.before) c.form.view_is)
          c.in-Ok-from_states.ensures.bound c.states-count.ensures.line,
      c.in-Ok-from_states.ensures.closed,
    )

pub bound_of_line-requires-clause-sets : goal.bound_of_line-requires-clause-sets
bound_of_line-requires-clause-sets c =
    within_graph c.args.db.now c.args.db.now.names c.graph.result.now c.as_slice.result.now
    c.args.held.items c.names-names.ensures.database refl c.graph.ensures.graph
    c.as_slice.ensures.value c.requires.sets

pub bound_of_line-requires-clause-said : goal.bound_of_line-requires-clause-said
bound_of_line-requires-clause-said c =
    subst (λ (said : Option ℕ). IfSome said IsBound)
    (sym (ap (λ (x : LiveText). x.bound) c.form.view_is)) c.requires.text.bound

pub from_states-requires-clause-three : goal.from_states-requires-clause-three
from_states-requires-clause-three c = c.in-Ok.ensures.line.three

pub from_states-requires-clause-few : goal.from_states-requires-clause-few
from_states-requires-clause-few c =
    few_held c.as_slice.result.now c.args.held.items c.in-Ok.bound c.as_slice.ensures.value
    c.in-Ok.ensures.line.few

pub from_states-requires-clause-cursor : goal.from_states-requires-clause-cursor
from_states-requires-clause-cursor c =
    let count : c.len.result ≡ length c.form.inside.before.items = search rules in
    let long = count ∙ ap (λ (x : LiveText). length x.before) c.form.view_is in
    subst (λ (n : ℕ). n < length c.args.held.items) (sym long)
    (cursor_within c.args.db.now.names c.args.held.items c.args.form.now c.requires.says)

pub from_states-requires-clause-differ : goal.from_states-requires-clause-differ
from_states-requires-clause-differ c =
    subst (λ (ps : List (List Bool × Bundles)). DifferInTurn (states_of ps))
    c.as_slice.ensures.value c.in-Ok.ensures.line.differ

pub from_states-requires-clause-sets : goal.from_states-requires-clause-sets
from_states-requires-clause-sets c = (
  length c.args.db.now.names,
  one_bound (length c.args.db.now.names) (states_of c.args.held.items) c.requires.sets,
)
