-- Words that name transitions.
use Rattle.std.proofs.Common.{ℕ, zero, suc, ◌<◌, List, [], ◌∷◌, ◌++◌, length, map, get_or}
use Rattle.std.proofs.Common.{sym, subst, arith}
use Rattle.std.proofs.lemmas.List.{get_or-map, length-map}
use Rattle.rc_args.specs.Listed.{Listed, IsSpelled, AreSpelled}

-- one more word
pub spelled_on : (words : List (List ℕ)) (all : List Listed) (word : List ℕ) (one : Listed)
    → AreSpelled words all → IsSpelled word one → AreSpelled (words ++ word ∷ []) (all ++ one ∷ [])
spelled_on [] [] word one are is = (is, tt)
spelled_on [] (o ∷ all) word one are is = absurd are
spelled_on (w ∷ words) [] word one are is = absurd are
spelled_on (w ∷ words) (o ∷ all) word one are is = (are.0, spelled_on words all word one are.1 is)

-- each word names a transition
spelled_at : (words : List (List ℕ)) (all : List Listed) (i : ℕ) (d : List ℕ) → i < length words
    → AreSpelled words all → (one : Listed) × IsSpelled (get_or words i d) one
spelled_at [] all i d low are = absurd (omega arith)
spelled_at (w ∷ words) [] i d low are = absurd are
spelled_at (w ∷ words) (o ∷ all) zero d low are = (o, are.0)
spelled_at (w ∷ words) (o ∷ all) (suc i) d low are =
    let less : i < length words = omega arith in spelled_at words all i d less are.1

-- a word that names none is in no list of words that do
pub not_spelled : {X : Type 0} (f : X → List ℕ) (words : List X) (i : ℕ) (d : X) → i < length words
    → ((one : Listed) → IsSpelled (f (get_or words i d)) one → ⊥) → (all : List Listed)
    → AreSpelled (map f words) all → ⊥
not_spelled f words i d low none all are =
    let at =
    spelled_at (map f words) all i (f d) (subst (λ n. i < n) (sym (length-map words f)) low) are in
    none at.0 (subst (λ (w : List ℕ). IsSpelled w at.0) (get_or-map f words i d (f d) low) at.1)
