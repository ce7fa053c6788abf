-- The failures that are remembered.
use Rattle.std.proofs.Common.{◌≡◌, ◌∙◌, ◌++◌, ◌∷◌, ◌&&◌, ℕ, Bool, true, false, List, [], Option}
use Rattle.std.proofs.Common.{None, Some, IfSome, ap, refl, subst, sym, length, take, drop}
use Rattle.std.proofs.Common.{true≢false, if◌then◌else◌}
use Rattle.std.specs.Prelude.{nat_eq}
use Rattle.std.proofs.lemmas.Bool.{and_parts, eqb-true, false≢true}
use Rattle.std.specs.Option.{option_map_or, option_or}
use Rattle.std.specs.Str.{bytes_eq}
use Rattle.std.proofs.lemmas.Slice.Eq.{bytes_eq-Decides}
use Rattle.rc_model.proofs.Tests.{told}
use Rattle.rc_cli.specs.Failures.{AreOwn, End, Failure, failure_for, has_ended, kept, last_failures}
use Rattle.rc_cli.specs.Failures.{last_known, remembered}

-- the first failure of a service in two lists
for_both : (xs ys : List Failure) (name : List ℕ) → failure_for (xs ++ ys) name
    ≡ option_or (failure_for xs name) (failure_for ys name)
for_both [] ys name = refl
for_both (x ∷ xs) ys name = told (bytes_eq x.name name) _
    (λ yes. rw yes refl)
    (λ no. rw no (for_both xs ys name))

-- the last of ends is known, whatever was before, where there is one
known_anyway : (name : List ℕ) (ends : List End) (a b : Option Failure)
    → has_ended ends name ≡ true → last_known name ends a ≡ last_known name ends b
known_anyway name [] a b is = absurd (true≢false (sym is))
known_anyway name (e ∷ more) a b is = told (bytes_eq e.name name) _
    (λ yes. rw yes refl)
    (λ no. rw no (known_anyway name more a b (rw no at is)))

-- what was before stays where there is none
known_still : (name : List ℕ) (ends : List End) (a : Option Failure)
    → has_ended ends name ≡ false → last_known name ends a ≡ a
known_still name [] a is = refl
known_still name (e ∷ more) a is = told (bytes_eq e.name name) _
    (λ yes. absurd (true≢false (rw yes at is)))
    (λ no. rw no (known_still name more a (rw no at is)))

-- a service whose name has an end, by its name under another word
ended_by : (ends : List End) (a b : List ℕ) (is : Bool) → bytes_eq a b ≡ true
    → has_ended ends a ≡ is → has_ended ends b ≡ is
ended_by ends a b is same has =
    subst (λ (n : List ℕ). has_ended ends n ≡ is) ((bytes_eq-Decides a b).0 same) has

-- of what is kept, a service has its failure where no end is of it
kept_for : (before : List Failure) (ends : List End) (name : List ℕ)
    → failure_for (kept before ends) name
    ≡ (if has_ended ends name then None else failure_for before name)
kept_for [] ends name =
    told (has_ended ends name) _ (λ yes. rw yes refl) (λ no. rw no refl)
kept_for (f ∷ more) ends name = told (has_ended ends f.name) _
    (λ gone. rw gone (kept_for more ends name ∙ told (bytes_eq f.name name) _
    (λ yes. rw (ended_by ends f.name name true yes gone) refl)
    (λ no. rw no refl)))
    (λ stays. rw stays (told (bytes_eq f.name name) _
    (λ yes. rw yes (rw (ended_by ends f.name name false yes stays) refl))
    (λ no. rw no (kept_for more ends name))))

-- a failure in front of others
one_for : (one : Option Failure) (service name : List ℕ) (rest : List Failure)
    → IfSome one (λ f. f.name ≡ service)
    → failure_for (option_map_or (λ f. f ∷ []) one [] ++ rest) name
    ≡ (if bytes_eq service name then option_or one (failure_for rest name)
    else failure_for rest name)
one_for None service name rest own =
    told (bytes_eq service name) _ (λ yes. rw yes refl) (λ no. rw no refl)
one_for (Some f) service name rest own =
    ap (λ (n : List ℕ). if bytes_eq n name then Some f else failure_for rest name) own

or_none : (one : Option Failure) → option_or one None ≡ one
or_none None = refl
or_none (Some f) = refl

-- of the last failures, a service has what the last end of it says
last_for : (ends : List End) (name : List ℕ) → AreOwn ends
    → failure_for (last_failures ends) name ≡ last_known name ends None
last_for [] name own = refl
last_for (e ∷ more) name own = told (has_ended more e.name) _
    (λ later. rw later (last_for more name own.1 ∙ told (bytes_eq e.name name) _
    (λ yes. rw yes (known_anyway name more None e.failure
    (ended_by more e.name name true yes later)))
    (λ no. rw no refl)))
    (λ last. rw last (one_for e.failure e.name name (last_failures more) own.0
    ∙ told (bytes_eq e.name name) _
    (λ yes. let none : has_ended more name ≡ false = ended_by more e.name name false yes last in
    rw yes (ap (option_or e.failure) (last_for more name own.1
    ∙ known_still name more None none) ∙ or_none e.failure
    ∙ sym (known_still name more e.failure none)))
    (λ no. rw no (last_for more name own.1))))

-- of what is remembered, a service has what the last end of it says, or what it had
pub remembered_for : (before : List Failure) (ends : List End) (name : List ℕ) → AreOwn ends
    → failure_for (remembered before ends) name
    ≡ last_known name ends (failure_for before name)
remembered_for before ends name own = for_both (kept before ends) (last_failures ends) name
    ∙ ap (λ (f : Option Failure). option_or f (failure_for (last_failures ends) name))
    (kept_for before ends name)
    ∙ ap (option_or (if has_ended ends name then None else failure_for before name))
    (last_for ends name own)
    ∙ told (has_ended ends name) _
    (λ yes. rw yes (known_anyway name ends None (failure_for before name) yes))
    (λ no. rw no (ap (option_or (failure_for before name)) (known_still name ends None no)
    ∙ or_none (failure_for before name)
    ∙ sym (known_still name ends (failure_for before name) no)))

-- an equality of numbers, the other way round
turned : (n m : ℕ) → nat_eq n m ≡ true → nat_eq m n ≡ true
turned n m is = subst (λ (k : ℕ). nat_eq k n ≡ true) (eqb-true n m is)
    (subst (λ (k : ℕ). nat_eq n k ≡ true) (sym (eqb-true n m is)) is)

-- a text that begins with another one is that and a third one where the third one is its rest
pub front_cut : (front rest text : List ℕ) → bytes_eq (take (length front) text) front ≡ true
    → bytes_eq rest (drop (length front) text) ≡ bytes_eq (front ++ rest) text
front_cut [] rest text begins = refl
front_cut (f ∷ fs) rest [] begins = absurd (false≢true begins)
front_cut (f ∷ fs) rest (t ∷ ts) begins =
    let both = and_parts (nat_eq t f) (bytes_eq (take (length fs) ts) fs) begins in
    front_cut fs rest ts both.1
    ∙ sym (ap (λ (b : Bool). b && bytes_eq (fs ++ rest) ts) (turned t f both.0))

-- and one that does not begin with it is none
pub no_front : (front rest text : List ℕ) → bytes_eq (take (length front) text) front ≡ false
    → bytes_eq (front ++ rest) text ≡ false
no_front [] rest text none = absurd (true≢false none)
no_front (f ∷ fs) rest [] none = refl
no_front (f ∷ fs) rest (t ∷ ts) none = told (nat_eq f t) _
    (λ yes. rw yes (no_front fs rest ts (rw (turned f t yes) at none)))
    (λ no. rw no refl)
