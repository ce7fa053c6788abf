-- Transitions whose services are found.
use Rattle.std.proofs.Common.{◌≡◌, ◌∙◌, ℕ, ◌<◌, List, [], ◌∷◌, ◌++◌, Some, length, slice_get}
use Rattle.std.proofs.Common.{get_or, All, Contains, sym}
use Rattle.std.proofs.lemmas.List.Elements.{All-push}
use Rattle.std.proofs.lemmas.Option.{slice_get_within, slice_get-get_or}
use Rattle.rc_graph.specs.declared.Way.{Way}
use Rattle.rc_args.specs.Listed.{Listed}
use Rattle.rc_cli.specs.Finding.{AreFound}

-- one more that was found
pub found_on : (names : List (List ℕ)) (all : List Listed) (failing : List (ℕ × Way)) (one : Listed)
    (entry : ℕ × Way) → AreFound names all failing → slice_get names entry.0 ≡ Some one.name
    → entry.1 ≡ one.way → AreFound names (all ++ one ∷ []) (failing ++ entry ∷ [])
found_on names [] [] one entry are at way = (at, way, tt)
found_on names [] (e ∷ failing) one entry are at way = absurd are
found_on names (o ∷ all) [] one entry are at way = absurd are
found_on names (o ∷ all) (e ∷ failing) one entry are at way =
    (are.0, are.1, found_on names all failing one entry are.2 at way)

-- one more whose name is a service's
pub known_one : (names : List (List ℕ)) (all : List Listed) (one : Listed) (id : ℕ)
    → slice_get names id ≡ Some one.name → All (λ known. Contains names known.name) all
    → All (λ known. Contains names known.name) (all ++ one ∷ [])
known_one names all one id at known =
    let within : id < length names = slice_get_within names id one.name at in
    let same : get_or names id one.name ≡ one.name =
    (let read : Some (get_or names id one.name) ≡ Some one.name =
    sym (slice_get-get_or names id one.name within) ∙ at in cc) in
    All-push (λ (k : Listed). Contains names k.name) all one known (id, within, same)
