-- What can be decided: a fact holds or does not.
use Rattle.std.proofs.Common.{◌≡◌, ◌≢◌, ◌∙◌, ◌↔◌, ◌⊎◌, ℕ, zero, suc, ◌+◌, ◌<◌, inl, inr, Bool, true}
use Rattle.std.proofs.Common.{false, List, [], ◌∷◌, ◌++◌, length, slice_index_or, Contains, refl}
use Rattle.std.proofs.Common.{arith, ap, subst}
use Rattle.std.proofs.lemmas.Bool.{cases_eq, cases_lt}
use Rattle.rc_model.specs.Line.{Lists}
use Rattle.rc_model.specs.Names.{Has, Holds}
use Rattle.rc_model.proofs.SetMembers.{has_or_lacks, has_within}
use Rattle.rc_model.specs.Graph.{Needs}
use Rattle.rc_set.specs.Listed.{ListsBelow}
use Rattle.rc_set.proofs.Listing.{one_listed, one_passed, lists_as}
use Rattle.rc_core.proofs.Finishing.{none_listed, all_listed}

abbrev pub Decided : Type 0 → Type 0
Decided P = P ⊎ (P → ⊥)

pub both : (P Q : Type 0) → Decided P → Decided Q → Decided (P × Q)
both P Q p q = elim p [
  | inl is ↦ elim q [ inl also ↦ inl (is, also) | inr never ↦ inr (λ h. never h.1) ]
  | inr never ↦ inr (λ h. never h.0)
]

pub either : (P Q : Type 0) → Decided P → Decided Q → Decided (P ⊎ Q)
either P Q p q = elim p [
  | inl is ↦ inl (inl is)
  | inr never ↦ elim q [
    | inl also ↦ inl (inr also)
    | inr neither ↦ inr (λ h. elim h [ inl one ↦ never one | inr other ↦ neither other ])
  ]
]

pub not : (P : Type 0) → Decided P → Decided (P → ⊥)
not P p = elim p [ inl is ↦ inr (λ never. never is) | inr never ↦ inl never ]

pub where_so : (P Q : Type 0) → Decided P → Decided Q → Decided (P → Q)
where_so P Q p q = elim q [
  | inl is ↦ inl (λ h. is)
  | inr never ↦
      elim p [ inl holds ↦ inr (λ f. never (f holds)) | inr fails ↦ inl (λ h. absurd (fails h)) ]
]

pub flag_decided : (flag want : Bool) → Decided (flag ≡ want)
flag_decided true true = inl refl
flag_decided true false = inr (λ e. let bad : true ≡ false = e in cc)
flag_decided false true = inr (λ e. let bad : false ≡ true = e in cc)
flag_decided false false = inl refl

-- some number below a bound, or none
pub some_below : (P : ℕ → Type 0) (n : ℕ) → ((s : ℕ) → s < n → Decided (P s))
    → ((s : ℕ) × (s < n) × P s) ⊎ ((s : ℕ) → s < n → P s → ⊥)
some_below P zero by = inr (λ s low h. absurd (omega arith))
some_below P (suc n) by = elim (by n (omega arith)) [
  | inl here ↦ inl (n, omega arith, here)
  | inr not_here ↦ elim (some_below P n (λ s low. by s (omega arith))) [
    | inl there ↦ let low : there.0 < n = there.1 in inl (there.0, omega arith, there.2)
    | inr none ↦ inr (λ s low h. elim (cases_lt s n) [
      | inl below ↦ none s below h
      | inr high ↦ let same : s ≡ n = omega arith in not_here (subst P same h)
    ])
  ]
]

-- a member of a list of what can be compared
pub member_decided : {X : Type 0} (xs : List X) (x : X) → ((a b : X) → Decided (a ≡ b))
    → Decided (Contains xs x)
member_decided xs x same =
    elim (some_below (λ k. slice_index_or xs k x ≡ x) (length xs)
    (λ k low. same (slice_index_or xs k x) x)) [
      | inl at ↦ inl at
      | inr none ↦ inr (λ at. none at.0 at.1 at.2)
    ]

pub number_decided : (a b : ℕ) → Decided (a ≡ b)
number_decided a b = cases_eq a b

-- two lists of what can be compared
pub list_decided : {X : Type 0} (xs ys : List X) → ((a b : X) → Decided (a ≡ b)) → Decided (xs ≡ ys)
list_decided [] [] same = inl refl
list_decided [] (y ∷ ys) same = inr (λ e. let bad : [] ≡ y ∷ ys = e in cc)
list_decided (x ∷ xs) [] same = inr (λ e. let bad : x ∷ xs ≡ [] = e in cc)
list_decided (x ∷ xs) (y ∷ ys) same = elim (same x y) [
  | inl one ↦ elim (list_decided xs ys same) [
    | inl rest ↦ inl (ap (λ h. h ∷ xs) one ∙ ap (λ t. y ∷ t) rest)
    | inr apart ↦
        inr (λ e. apart (let both_same : x ∷ xs ≡ y ∷ ys = e in let tails : xs ≡ ys = cc in tails))
  ]
  | inr apart ↦
      inr (λ e. apart (let both_same : x ∷ xs ≡ y ∷ ys = e in let heads : x ≡ y = cc in heads))
]

-- the set of a fact that is decided below a bound
pub record IsSetOf (P : ℕ → Type 0) (n : ℕ) (set : List Bool) : Type 0 where
  pub bound : length set ≡ n
  pub same : (s : ℕ) → s < n → Has set s ↔ P s

-- one flag in front of a set
in_front : (P : ℕ → Type 0) (n : ℕ) (flag : Bool) (set : List Bool) → IsSetOf (λ s. P (suc s)) n set
    → (flag ≡ true) ↔ P 0 → IsSetOf P (suc n) (flag ∷ set)
in_front P n flag set rest here =
    record { bound = (let long : length set ≡ n = rest.bound in omega (arith, long)); same = at }
  where
    at : (s : ℕ) → s < suc n → Has (flag ∷ set) s ↔ P s
    at zero low = here
    at (suc s) low = rest.same s (omega arith)

pub set_of : (P : ℕ → Type 0) (n : ℕ) → ((s : ℕ) → s < n → Decided (P s))
    → (set : List Bool) × IsSetOf P n set
set_of P zero by = ([], record { bound = refl; same = λ s low. absurd (omega arith) })
set_of P (suc n) by =
    let rest = set_of (λ s. P (suc s)) n (λ s low. by (suc s) (omega arith)) in
    elim (by 0 (omega arith)) [
      | inl here ↦ (true ∷ rest.0, in_front P n true rest.0 rest.1 (λ set. here, λ h. refl))
      | inr never ↦ (
        false ∷ rest.0,
        in_front P n false rest.0 rest.1 (
          λ set. absurd (let bad : false ≡ true = set in cc),
          λ h. absurd (never h),
        ),
      )
    ]

-- where the fact holds below the bound alone, that is the set of it
pub holds_of : (P : ℕ → Type 0) (n : ℕ) (set : List Bool) → IsSetOf P n set
    → ((s : ℕ) → P s → s < n) → Holds set P
holds_of P n set is within s = (
  λ has. let low : s < length set = has_within set s has in let long : length set ≡ n = is.bound in
      (is.same s (omega arith)).0 has,
  λ h. (is.same s (within s h)).1 h,
)

-- the ids of a set
listed_below : (set : List Bool) (n : ℕ) → (ids : List ℕ) × ListsBelow (Has set) n ids
listed_below set zero = ([], none_listed set [] refl)
listed_below set (suc n) =
    let rest = listed_below set n in
    let next : n + 1 ≡ suc n = omega arith in
    let before : ListsBelow (Has set) n rest.0 = rest.1 in
    elim (has_or_lacks set n) [
      | inl has ↦ (
        rest.0 ++ n ∷ [],
        subst (λ m. ListsBelow (Has set) m (rest.0 ++ n ∷ [])) next
            (one_listed (Has set) n rest.0 before has),
      )
      | inr lacks ↦ (
        rest.0,
        subst (λ m. ListsBelow (Has set) m rest.0) next
            (one_passed (Has set) n rest.0 before lacks),
      )
    ]

pub ids_of_set : (set : List Bool) → (ids : List ℕ) × Lists (Has set) ids
ids_of_set set = let below = listed_below set (length set) in
    (below.0, all_listed set (length set) below.0 (omega arith) below.1)

-- the ids of which a decided fact holds
pub ids_of : (P : ℕ → Type 0) (n : ℕ) → ((s : ℕ) → s < n → Decided (P s)) → ((s : ℕ) → P s → s < n)
    → (ids : List ℕ) × Lists P ids
ids_of P n by within =
    let set = set_of P n by in
    let ids = ids_of_set set.0 in
    (ids.0, lists_as (Has set.0) P ids.0 (holds_of P n set.0 set.1 within) ids.1)

-- a list that is not empty has a last element
pub last_of : {X : Type 0} (xs : List X) → xs ≢ []
    → (front : List X) × (last : X) × (xs ≡ front ++ last ∷ [])
last_of [] some = absurd (some refl)
last_of (x ∷ []) some = ([], x, refl)
last_of (x ∷ y ∷ xs) some =
    let rest = last_of (y ∷ xs) (λ e. let bad : y ∷ xs ≡ [] = e in cc) in
    (x ∷ rest.0, rest.1, ap (λ t. x ∷ t) rest.2)

-- and a first one
pub first_of : {X : Type 0} (xs : List X) → xs ≢ []
    → (first : X) × (rest : List X) × (xs ≡ first ∷ rest)
first_of [] some = absurd (some refl)
first_of (x ∷ xs) some = (x, xs, refl)

pub needs_decided : (needs : List (List ℕ)) (s t : ℕ) → Decided (Needs needs s t)
needs_decided needs s t = member_decided (slice_index_or needs s []) t number_decided
