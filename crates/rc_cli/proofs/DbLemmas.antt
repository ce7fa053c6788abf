-- What queries find are services.
use Rattle.std.proofs.Common.{◌≡◌, ℕ, ◌<◌, inl, inr, List, Bool, [], ◌∷◌, ◌++◌, Some}
use Rattle.std.proofs.Common.{length, All, slice_index_or, sym, subst, arith}
use Rattle.std.proofs.lemmas.List.Elements.{All-contains_itself}
use Rattle.std.proofs.lemmas.Option.{slice_get_within}
use Rattle.rc_model.specs.Line.{Lists}
use Rattle.rc_model.specs.Names.{Has}
use Rattle.rc_model.proofs.SetMembers.{has_within}
use Rattle.rc_model.specs.Graph.{EachNeedsNext, Needs}
use Rattle.rc_graph.specs.declared.Way.{Way}
use Rattle.rc_graph.specs.declared.Way.TheVariants.{Raise, Lower}
use Rattle.rc_graph.proofs.Paths.{closed_has_up}
use Rattle.rc_graph.proofs.RowLemmas.{needer_known}
use Rattle.rc_model.specs.Database.{value_of, Database, IsDatabase, Selected}
use Rattle.rc_db.proofs.Words.{bound_of_value}
use Rattle.rc_cli.specs.DbAnswer.{IsFound}
use Rattle.rc_args.specs.declared.cmdline.query_words.NamesQuery.{NamesQuery}
use Rattle.rc_args.specs.declared.cmdline.query_words.NamesQuery.TheVariants.{Atomics, Dependencies}
use Rattle.rc_args.specs.declared.cmdline.query_words.NamesQuery.TheVariants.{AllDependencies}

-- all of a list is below a bound, where that is so of all that it lists
pub listed_within : (P : ℕ → Type 0) (ids list : List ℕ) (names more : List (List ℕ)) → Lists P ids
    → list ≡ ids → more ≡ names → ((s : ℕ) → P s → s < length names)
    → All (λ s. s < length more) list
listed_within P ids list names more lists same_ids same_names within =
    subst (λ (xs : List (List ℕ)). All (λ s. s < length xs) list) (sym same_names)
    (subst (λ (xs : List ℕ). All (λ s. s < length names) xs) (sym same_ids)
    (λ k d below. within (slice_index_or ids k d)
    ((lists.same (slice_index_or ids k d)).0 (All-contains_itself ids k d below))))

-- a member of a bundle is a service
pub bundle_within : (d : Database) (name : List ℕ) (set : List Bool) (s : ℕ) → IsDatabase d
    → value_of d.table name ≡ Some set → Has set s → s < length d.names
bundle_within d name set s held found has =
    let low : s < length set = has_within set s has in
    let fits : length set ≡ length d.names =
    bound_of_value (length d.names) d.table name set held.fit.bounds found in
    omega arith

-- what words stand for is a service
pub selected_within : (d : Database) (words : List (List ℕ)) (s : ℕ) → IsDatabase d
    → Selected d.names d.table words s → s < length d.names
selected_within d words s held chosen = elim chosen.2 [
  | inl at ↦ slice_get_within d.names s chosen.0 at
  | inr bundle ↦ bundle_within d chosen.0 bundle.0 s held bundle.1 bundle.2
]

-- what is needed is a service
needed_within : (d : Database) (s t : ℕ) → IsDatabase d → Needs d.needs s t → t < length d.names
needed_within d s t held need =
    let low : t < length d.needs = held.needs.known s t need in
    let fits : length d.needs ≡ length d.names = held.fit.graph in
    omega arith

-- what needs something is a service
needer_within : (d : Database) (s t : ℕ) → IsDatabase d → Needs d.needs s t → s < length d.names
needer_within d s t held need =
    let low : s < length d.needs = needer_known d.needs s t need in
    let fits : length d.needs ≡ length d.names = held.fit.graph in
    omega arith

-- what reaches something is a service
reacher_within : (d : Database) (s : ℕ) (between : List ℕ) (t : ℕ) → IsDatabase d
    → EachNeedsNext d.needs (s ∷ (between ++ t ∷ [])) → s < length d.names
reacher_within d s [] t held path = needer_within d s t held path.0
reacher_within d s (x ∷ between) t held path = needer_within d s x held path.0

-- what a query finds is a service
pub found_within : (d : Database) (way : Way) (query : NamesQuery) (In : ℕ → Type 0) (s : ℕ)
    → IsDatabase d → ((t : ℕ) → In t → t < length d.names) → IsFound d way query In s
    → s < length d.names
found_within d way Atomics In s held within found = within s found
found_within d Raise Dependencies In s held within found = needed_within d found.0 s held found.2
found_within d Lower Dependencies In s held within found = needer_within d s found.0 held found.2
found_within d Raise AllDependencies In s held within found =
    closed_has_up d.needs (λ t. t < length d.names) In
    (λ r t low need. needed_within d r t held need) within s found
found_within d Lower AllDependencies In s held within found = elim found [
  | inl here ↦ within s here
  | inr there ↦ reacher_within d s there.2.0 there.0 held there.2.1
]
