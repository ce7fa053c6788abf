-- Lists that are joined: what holds of their parts, and where they are cut.
use Rattle.std.proofs.Common.{◌≡◌, ◌∙◌, ℕ, suc, List, [], ◌∷◌, ◌++◌, length, get_or, slice_get, All}
use Rattle.std.proofs.Common.{Some, refl, sym, ap, subst, arith, append_assoc}
use Rattle.std.proofs.lemmas.Grind.{flat_map-append}
use Rattle.std.proofs.lemmas.List.{append-nil}
use Rattle.std.proofs.lemmas.List.Elements.{All-nil, All-cons}
use Rattle.std.proofs.lemmas.Option.{slice_get_within, get_or_from_slice_get}
use Rattle.std.specs.List.{flat_map}

pub push_append : {X : Type 0} (xs : List X) (y : X) (ys : List X)
    → (xs ++ y ∷ []) ++ ys ≡ xs ++ y ∷ ys
push_append [] y ys = refl
push_append (x ∷ xs) y ys = ap (λ rest. x ∷ rest) (push_append xs y ys)

-- what holds of all holds of those in front, of those behind, and of one between
pub all_front : {X : Type 0} (P : X → Type 0) (xs ys : List X) → All P (xs ++ ys) → All P xs
all_front P [] ys h = All-nil P
all_front P (x ∷ xs) ys h =
    All-cons P x xs (h 0 x (omega arith)) (all_front P xs ys (λ k d low. h (suc k) d (omega arith)))

pub all_back : {X : Type 0} (P : X → Type 0) (xs ys : List X) → All P (xs ++ ys) → All P ys
all_back P [] ys h = h
all_back P (x ∷ xs) ys h = all_back P xs ys (λ k d low. h (suc k) d (omega arith))

pub all_between : {X : Type 0} (P : X → Type 0) (xs : List X) (y : X) (ys : List X)
    → All P (xs ++ y ∷ ys) → P y
all_between P [] y ys h = h 0 y (omega arith)
all_between P (x ∷ xs) y ys h = all_between P xs y ys (λ k d low. h (suc k) d (omega arith))

-- what all are, the one at a place is
pub all_at : {X : Type 0} (P : X → Type 0) (xs : List X) (p : ℕ) (s : X) → slice_get xs p ≡ Some s
    → All P xs → P s
all_at P xs p s there all =
    subst P (get_or_from_slice_get xs p s s there) (all p s (slice_get_within xs p s there))

-- the word at a place of equal lists
pub word_at : (k : ℕ) (ws vs : List (List ℕ)) → ws ≡ vs → get_or ws k [] ≡ get_or vs k []
word_at k ws vs same = ap (λ (l : List (List ℕ)). get_or l k []) same

-- texts of one length in front of one text are one
pub cut_once : (a b x y : List ℕ) → length a ≡ length b → a ++ x ≡ b ++ y → (a ≡ b) × (x ≡ y)
cut_once [] [] x y long same = (refl, same)
cut_once [] (d ∷ b) x y long same = absurd (omega arith)
cut_once (c ∷ a) [] x y long same = absurd (omega arith)
cut_once (c ∷ a) (d ∷ b) x y long same =
    let heads : c ≡ d = cc in
    let rest = cut_once a b x y (omega arith) cc in
    let tails : a ≡ b = rest.0 in
    (cc, rest.1)

-- one more of the pieces that are joined
pub one_more : {X : Type 0} (f : X → List ℕ) (before : List X) (x : X)
    → flat_map f (before ++ x ∷ []) ≡ flat_map f before ++ f x
one_more f before x =
    flat_map-append f before (x ∷ []) ∙ ap (λ (n : List ℕ). flat_map f before ++ n)
    (append-nil (f x))

-- a text that grew in its last part
pub grown : (new old front part longer more : List ℕ) → new ≡ old ++ more → old ≡ front ++ part
    → longer ≡ part ++ more → new ≡ front ++ longer
grown new old front part longer more grows was is =
    grows ∙ (ap (λ (t : List ℕ). t ++ more) was
    ∙ (append_assoc front part more ∙ ap (λ (t : List ℕ). front ++ t) (sym is)))
