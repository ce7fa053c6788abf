-- How many services of a course move, and that a run fits into the room counted for it.
use Rattle.std.proofs.Common.{◌≡◌, ◌∙◌, inl, inr, ◌⊎◌, ℕ, zero, suc, ◌+◌, ◌*◌, ◌<◌, ◌≤◌, Bool, true}
use Rattle.std.proofs.Common.{false, cond, ◌||◌, List, [], ◌∷◌, length, count_by, Result, Ok, Err}
use Rattle.std.proofs.Common.{IfOk, refl, sym, arith}
use Rattle.std.proofs.lemmas.List.Sums.{sum_by-cons, count_by-le-length}
use Rattle.rc_model.specs.Names.{Has, Holds}
use Rattle.rc_model.specs.declared.Event.{Event}
use Rattle.rc_model.specs.Run.{Course, IsPlanned, IsRun, IsSettled}
use Rattle.rc_model.specs.Beside.{IsCourse, planned_count}
use Rattle.rc_model.specs.declared.Event.TheVariants.{Take}
use Rattle.rc_model.proofs.RunLemmas.{run_empty}
use Rattle.rc_core.proofs.Opening.{none_happened}
use Rattle.rc_core.proofs.Places.{move_is_left}
use Rattle.rc_board.proofs.Lasting.{run_is_short}

abbrev count : List Bool → ℕ
count set = count_by (λ flag. flag) set

count_in : (set : List Bool) → count (true ∷ set) ≡ 1 + count set
count_in set = sum_by-cons (λ (flag : Bool). cond flag 1 0) true set

count_out : (set : List Bool) → count (false ∷ set) ≡ count set
count_out set = omega (arith, sum_by-cons (λ (flag : Bool). cond flag 1 0) false set)

-- what one of two sets has
abbrev either_of : List Bool → List Bool → List Bool
either_of [] ys = []
either_of (x ∷ xs) [] = []
either_of (x ∷ xs) (y ∷ ys) = (x || y) ∷ either_of xs ys

in_either : (xs ys : List Bool) (s : ℕ) → length xs ≡ length ys → Has (either_of xs ys) s
    → Has xs s ⊎ Has ys s
in_either [] ys s same has = inl has
in_either (x ∷ xs) [] s same has = absurd (omega arith)
in_either (true ∷ xs) (y ∷ ys) zero same has = inl refl
in_either (false ∷ xs) (y ∷ ys) zero same has = inr has
in_either (x ∷ xs) (y ∷ ys) (suc s) same has =
    let less : length xs ≡ length ys = omega arith in in_either xs ys s less has

either_in : (xs ys : List Bool) (s : ℕ) → length xs ≡ length ys → Has xs s ⊎ Has ys s
    → Has (either_of xs ys) s
either_in [] [] s same has = elim has [
  | inl left ↦ left
  | inr right ↦ right
]
either_in [] (y ∷ ys) s same has = absurd (omega arith)
either_in (x ∷ xs) [] s same has = absurd (omega arith)
either_in (true ∷ xs) (y ∷ ys) zero same has = refl
either_in (false ∷ xs) (y ∷ ys) zero same has = elim has [
  | inl left ↦ absurd (let bad : false ≡ true = left in cc)
  | inr right ↦ right
]
either_in (x ∷ xs) (y ∷ ys) (suc s) same has =
    let less : length xs ≡ length ys = omega arith in either_in xs ys s less has

either_few : (xs ys : List Bool) → count (either_of xs ys) ≤ count xs + count ys
either_few [] ys = let none : count [] ≡ 0 = refl in omega (arith, none)
either_few (x ∷ xs) [] = let none : count [] ≡ 0 = refl in omega (arith, none)
either_few (true ∷ xs) (true ∷ ys) =
    omega (arith, either_few xs ys, count_in xs, count_in ys, count_in (either_of xs ys))
either_few (true ∷ xs) (false ∷ ys) =
    omega (arith, either_few xs ys, count_in xs, count_out ys, count_in (either_of xs ys))
either_few (false ∷ xs) (true ∷ ys) =
    omega (arith, either_few xs ys, count_out xs, count_in ys, count_in (either_of xs ys))
either_few (false ∷ xs) (false ∷ ys) =
    omega (arith, either_few xs ys, count_out xs, count_out ys, count_out (either_of xs ys))

-- a run has at most two events for each service that is to move, and one to stop
pub run_fits : (c : Course) (events : List Event) (room : ℕ) → IsCourse c → IsRun c events
    → 2 * planned_count c + 1 ≤ room → length events ≤ room
run_fits c events room course run enough =
    let same : length c.lower ≡ length c.raise = course.lower_bound ∙ sym course.raise_bound in
    let planned : List Bool = either_of c.lower c.raise in
    let holds : Holds planned (IsPlanned c) =
    λ s. (in_either c.lower c.raise s same, either_in c.lower c.raise s same) in
    let short = run_is_short c planned events holds run in
    let few = either_few c.lower c.raise in
    omega (arith, short, few, enough)

-- a set has no member, or this one
find : (set : List Bool) → (count set ≡ 0) ⊎ ((s : ℕ) × Has set s)
find [] = inl refl
find (true ∷ set) = inr (zero, refl)
find (false ∷ set) = elim (find set) [
  | inl none ↦ inl (count_out set ∙ none)
  | inr some ↦ inr (suc some.0, some.1)
]

counted : (set : List Bool) (s : ℕ) → Has set s → 0 < count set
counted [] s has = absurd (let bad : false ≡ true = has in cc)
counted (true ∷ set) s has = let more = count_in set in omega (arith, more)
counted (false ∷ set) zero has = absurd (let bad : false ≡ true = has in cc)
counted (false ∷ set) (suc s) has =
    let more = counted set s has in let same = count_out set in omega (arith, more, same)

-- where services are to move, there is one
pub one_planned : (c : Course) (n : ℕ) → n ≡ planned_count c → 0 < n → (s : ℕ) × IsPlanned c s
one_planned c n is some = elim (find c.lower) [
  | inl none_low ↦ elim (find c.raise) [
    | inl none_high ↦ absurd (omega (arith, is, some, none_low, none_high))
    | inr high ↦ (high.0, inr high.1)
  ]
  | inr low ↦ (low.0, inl low.1)
]

-- where none is, there is none
pub none_planned : (c : Course) → planned_count c ≡ 0 → (s : ℕ) → IsPlanned c s → ⊥
none_planned c none s planned = elim planned [
  | inl low ↦ let more = counted c.lower s low in omega (arith, none, more)
  | inr high ↦ let more = counted c.raise s high in omega (arith, none, more)
]

-- where nothing is to move, the run is settled from the first
pub idle_settled : (c : Course) → ((s : ℕ) → IsPlanned c s → ⊥) → IsSettled c []
idle_settled c none = record {
  run = run_empty c;
  none_held = λ w s held. none_happened (Take w s) held.0;
  ended = inr (λ w s legal. none s (move_is_left c [] s legal.3).0);
}

-- what is true of everything is true of what is answered
pub ok_always : {A E : Type 0} (r : Result A E) (P : A → Type 0) → ((a : A) → P a) → IfOk r P
ok_always (Ok a) P all = all a
ok_always (Err e) P all = tt

-- so few services that a course can move
pub few_planned : (c : Course) → IsCourse c → planned_count c ≤ 8192
few_planned c course =
    let low = count_by-le-length (λ (flag : Bool). flag) c.lower in
    let high = count_by-le-length (λ (flag : Bool). flag) c.raise in
    omega (arith, low, high, course.lower_bound, course.raise_bound, course.lists.few)
