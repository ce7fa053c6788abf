-- What stops at the first of a list that does not pass, and what is left of a list after those that
-- passed.
use Rattle.std.proofs.Common.{◌≡◌, ◌∙◌, ⊎_elim, inl, inr, List, [], ◌∷◌, ◌++◌, map, All}
use Rattle.std.proofs.Common.{append_assoc, refl, sym, subst}
use Rattle.std.proofs.lemmas.List.{append-nil}
use Rattle.std.proofs.lemmas.List.Elements.{All-head, All-tail, All-nil, All-append}
use Rattle.rc_source.specs.Stops.{StopsFirst}

module _ {A : Type 0} (Passes Stops : A → Type 0) where
  -- what stops in a list stops in a longer one
  pub stops_before : (xs ys : List A) → StopsFirst Passes Stops xs
      → StopsFirst Passes Stops (xs ++ ys)
  stops_before [] ys h = absurd h
  stops_before (x ∷ xs) ys h =
      ⊎_elim (λ here. inl here) (λ later. inr (later.0, stops_before xs ys later.1)) h

  -- also after a list that passes
  pub stops_behind : (xs ys : List A) → All Passes xs → StopsFirst Passes Stops ys
      → StopsFirst Passes Stops (xs ++ ys)
  stops_behind [] ys all h = h
  stops_behind (x ∷ xs) ys all h =
      inr (All-head Passes x xs all, stops_behind xs ys (All-tail Passes x xs all) h)

-- what stops in a list stops in what is made of it, element by element
pub stops_map : {A B : Type 0} (P S : A → Type 0) (Q R : B → Type 0) (g : A → B)
    → ((x : A) → P x → Q (g x)) → ((x : A) → S x → R (g x))
    → (xs : List A) → StopsFirst P S xs → StopsFirst Q R (map g xs)
stops_map P S Q R g passes stops [] h = absurd h
stops_map P S Q R g passes stops (x ∷ xs) h =
    ⊎_elim (λ here. inl (stops x here))
    (λ later. inr (passes x later.0, stops_map P S Q R g passes stops xs later.1)) h

-- what is left of a list, where all before it passes
pub record IsLeft {A : Type 0} (Passes : A → Type 0) (whole left : List A) : Type 0 where
  pub done : List A
  pub order : whole ≡ done ++ left
  pub passed : All Passes done

module _ {A : Type 0} (Passes : A → Type 0) (whole : List A) where
  -- nothing is done yet
  pub left_whole : IsLeft Passes whole whole
  left_whole = record { done = []; order = refl; passed = All-nil Passes }

  -- more passes
  pub left_more : (xs ys : List A) → IsLeft Passes whole (xs ++ ys) → All Passes xs
      → IsLeft Passes whole ys
  left_more xs ys left all = record {
    done = left.done ++ xs;
    order = left.order ∙ sym (append_assoc left.done xs ys);
    passed = All-append Passes left.done xs left.passed all;
  }

  -- nothing is left
  pub left_none : IsLeft Passes whole [] → All Passes whole
  left_none left = subst (All Passes) (sym (left.order ∙ append-nil left.done)) left.passed

  -- it stops in what comes next
  pub left_stops : (Stops : A → Type 0) (xs ys : List A) → IsLeft Passes whole (xs ++ ys)
      → StopsFirst Passes Stops xs → StopsFirst Passes Stops whole
  left_stops Stops xs ys left h =
      subst (StopsFirst Passes Stops) (sym left.order)
      (stops_behind Passes Stops left.done (xs ++ ys) left.passed
      (stops_before Passes Stops xs ys h))
