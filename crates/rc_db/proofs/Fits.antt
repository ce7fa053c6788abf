-- What a service writes for, and what holds of all parts once it holds of each.
use Rattle.std.proofs.Common.{◌≡◌, ◌↔◌, ◌+◌, ◌<◌, ◌≤◌, ⊎_elim, ℕ, Bool, true, false, List, length}
use Rattle.std.proofs.Common.{get_or, slice_get, All, Some, ap, subst, refl, arith}
use Rattle.std.proofs.lemmas.Bool.{cases_lt}
use Rattle.std.proofs.lemmas.Option.{slice_get-get_or, slice_get_within, get_or_from_slice_get}
use Rattle.std.specs.Bool.{OnTrue}
use Rattle.rc_model.specs.Database.{Database, Feeds}

-- a service writes for one other at most
pub feeds_one : (d : Database) (s t u : ℕ) → Feeds d s t → Feeds d s u → t ≡ u
feeds_one d s t u (one, at_one, is_t) (other, at_other, is_u) =
    let same : one ≡ other = cc in
    let target : one.producer_for ≡ other.producer_for =
    ap (λ service. service.producer_for) same in
    cc

-- what holds of the one that a service writes for holds of all
pub of_fed : (d : Database) (s t : ℕ) (P : ℕ → Type 0) → Feeds d s t
    → ((u : ℕ) → Feeds d s u → P u) ↔ P t
of_fed d s t P feeds =
    (λ all. all t feeds, λ one u other. subst P (feeds_one d s t u feeds other) one)

-- a fact that follows from a test
pub on_true : (b : Bool) (P : Type 0) → (b ≡ true → P) → OnTrue b P
on_true true P f = f refl
on_true false P f = tt

-- what holds of all holds of the one at a place
pub at_place : {X : Type 0} (P : X → Type 0) (xs : List X) (i : ℕ) (x : X) → All P xs
    → slice_get xs i ≡ Some x → P x
at_place P xs i x all there =
    subst P (get_or_from_slice_get xs i x x there) (all i x (slice_get_within xs i x there))

-- what holds of those before a place and of the one there
pub one_more : {X : Type 0} (P : X → Type 0) (xs : List X) (i : ℕ) (x : X)
    → slice_get xs i ≡ Some x → P x
    → ((k : ℕ) (y : X) → k < i → slice_get xs k ≡ Some y → P y) → (k : ℕ) (y : X) → k < i + 1
    → slice_get xs k ≡ Some y → P y
one_more P xs i x there holds before k y within at = ⊎_elim
    (λ low. before k y low at)
    (λ high. let here : k ≡ i = omega arith in let is : x ≡ y = cc in subst P is holds)
    (cases_lt k i)

-- what holds at each place holds of all
pub at_each : {X : Type 0} (P : X → Type 0) (xs : List X) (i : ℕ) → length xs ≤ i
    → ((k : ℕ) (y : X) → k < i → slice_get xs k ≡ Some y → P y) → All P xs
at_each P xs i whole each k d within =
    each k (get_or xs k d) (omega arith) (slice_get-get_or xs k d within)
