-- What was found of neighbours says whether names ascend.
use Rattle.std.proofs.Common.{◌≡◌, ℕ, ◌+◌, ◌<◌, ◌↔◌, Bool, true, false, IsTrue, List, [], ◌∷◌}
use Rattle.std.proofs.Common.{length, map, arith}
use Rattle.std.proofs.lemmas.List.{get_or-map, length-map}
use Rattle.std.specs.List.{IsAllAdjacentAnswer}
use Rattle.rc_model.specs.Names.{IsInByteOrder}
use Rattle.rc_model.proofs.WordOrders.{before, sorted_answer}

module _ {X : Type 0} (name : X → List ℕ) where
  -- what was found of values and the next is what was found of their names
  names_adjacent : (xs : List X) (answer : Bool)
      → IsAllAdjacentAnswer (λ s t found. found ≡ before (name s) (name t)) xs answer
      → IsAllAdjacentAnswer (λ a b found. found ≡ before a b) (map name xs) answer
  names_adjacent [] true each = λ k d low. absurd (omega arith)
  names_adjacent (x ∷ xs) true each = λ k d low.
      let within : k + 1 < length (x ∷ xs) = omega (arith, length-map (x ∷ xs) name) in
      rw (get_or-map name (x ∷ xs) k x d (omega arith), get_or-map name (x ∷ xs) (k + 1) x d within)
      (each k x within)
  names_adjacent [] false (k, within, apart) = absurd (omega arith)
  names_adjacent (x ∷ xs) false (k, within, apart) = (
    k,
    omega (arith, length-map (x ∷ xs) name),
    λ d. rw (
      get_or-map name (x ∷ xs) k x d (omega arith),
      get_or-map name (x ∷ xs) (k + 1) x d within,
    ) (apart x),
  )

  -- values of which each and the next were found in order have names in order, and no others
  pub sorted_by_name : (xs : List X) (answer : Bool)
      → IsAllAdjacentAnswer (λ s t found. found ≡ before (name s) (name t)) xs answer
      → IsTrue answer ↔ IsInByteOrder (map name xs)
  sorted_by_name xs answer each = sorted_answer (map name xs) answer (names_adjacent xs answer each)
