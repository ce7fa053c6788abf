-- Lists that are mapped, up to one place.
use Rattle.std.proofs.Common.{◌≡◌, ◌∙◌, ℕ, ◌+◌, ◌<◌, List, [], ◌∷◌, ◌++◌, length, map, take, drop}
use Rattle.std.proofs.Common.{get_or, add-one, drop-cons, ap, sym, subst, insert}
use Rattle.std.proofs.lemmas.List.{take_more, take-append-drop, get_or-map, length-map, map-append}
use Rattle.std.proofs.lemmas.List.{take-map, drop-map}

-- the words up to one, and that one
pub mapped_more : {X Y : Type 0} (f : X → Y) (xs : List X) (i : ℕ) (d : X) → i < length xs
    → take (i + 1) (map f xs) ≡ take i (map f xs) ++ f (get_or xs i d) ∷ []
mapped_more f xs i d within =
    take_more (map f xs) i (f d) (subst (λ n. i < n) (sym (length-map xs f)) within)
    ∙ ap (λ y. take i (map f xs) ++ y ∷ []) (get_or-map f xs i d (f d) within)

pub mapped_next : {X Y : Type 0} (f : X → Y) (xs : List X) (i : ℕ) (x : X) → i < length xs
    → x ≡ get_or xs i x → take (i + 1) (map f xs) ≡ take i (map f xs) ++ f x ∷ []
mapped_next f xs i x within here =
    mapped_more f xs i x within ∙ ap (λ y. take i (map f xs) ++ f y ∷ []) (sym here)

-- a list from one place on begins with what stands there
pub cut_at : {X Y : Type 0} (f : X → Y) (xs : List X) (i : ℕ) (d : X) → i < length xs
    → map f xs ≡ take i (map f xs) ++ f (get_or xs i d) ∷ drop (i + 1) (map f xs)
cut_at f xs i d within =
    let inside : i < length (map f xs) = subst (λ n. i < n) (sym (length-map xs f)) within in
    sym (take-append-drop i (map f xs))
    ∙ (ap (λ ys. take i (map f xs) ++ ys) (rw add-one (drop-cons (map f xs) i (f d) inside))
    ∙ ap (λ y. take i (map f xs) ++ y ∷ drop (i + 1) (map f xs)) (get_or-map f xs i d (f d) within))

-- the image of a list with one element more
pub map-insert : {X Y : Type 0} (f : X → Y) (xs : List X) (i : ℕ) (x : X)
    → map f (insert xs i x) ≡ insert (map f xs) i (f x)
map-insert f xs i x =
    map-append f (take i xs) (x ∷ drop i xs)
    ∙ (λ n. sym (take-map f i xs) n ++ f x ∷ sym (drop-map f i xs) n)
