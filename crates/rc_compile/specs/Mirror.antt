-- Relations between names, as lists of ids for the places of the names.
use Rattle.std.specs.Prelude.{◌≡◌, ◌↔◌, ℕ, List, length, Contains, Some, slice_get}
use Rattle.std.specs.Option.{option_to_list}
use Rattle.rc_model.specs.Graph.{Needs}
use Rattle.rc_source.specs.Meaning.{Meaning}
use Rattle.rc_compile.specs.declared.members.rows.Listed.{Listed}
use Rattle.rc_compile.specs.declared.members.rows.Listed.TheVariants.{Dependencies, Consumers}
use Rattle.rc_compile.specs.declared.members.rows.Listed.TheVariants.{Contents}
use Rattle.rc_compile.specs.declared.members.rows.Listed.TheVariants.{Producer}
use Rattle.rc_compile.specs.Pipelines.{IsDefined}

-- a list of a definition
abbrev pub listed_of : Listed → Meaning → List (List ℕ)
listed_of Dependencies m = m.dependencies
listed_of Consumers m = m.consumer_for
listed_of Contents m = m.contents
listed_of Producer m = option_to_list m.producer_for

-- the definition of the first name lists the second
abbrev pub HasListed : Listed → List Meaning → List ℕ → List ℕ → Type 0
HasListed which ms a b = IsDefined ms (λ m. Contains (listed_of which m) b) a

-- ids at whose places stand names that are in the relation
abbrev pub AreAt : (List ℕ → List ℕ → Type 0) → List (List ℕ) → List (List ℕ) → ℕ → ℕ → Type 0
AreAt R from to s t =
    (a b : List ℕ) × (slice_get from s ≡ Some a) × (slice_get to t ≡ Some b) × R a b

-- ids that are in a list where the names at their places are in a relation: one list for each of
-- the first names, of places among the second
pub record Mirrors (R : List ℕ → List ℕ → Type 0) (from to : List (List ℕ))
    (lists : List (List ℕ)) : Type 0 where
  pub few : length lists ≡ length from
  pub same : (s t : ℕ) → Needs lists s t ↔ AreAt R from to s t
