-- Services that go on as one are one, where no two conversions share a name.
use Rattle.std.proofs.Common.{◌≡◌, ◌∙◌, ◌++◌, ◌∷◌, ℕ, Bool, List, [], Option, None, Some, false}
use Rattle.std.proofs.Common.{true}
use Rattle.std.proofs.Common.{if◌then◌else◌, ap, refl, subst, sym}
use Rattle.std.proofs.lemmas.Bool.{false≢true}
use Rattle.std.proofs.lemmas.Option.{same_Some}
use Rattle.std.proofs.lemmas.Slice.Eq.{bytes_eq-Decides}
use Rattle.std.specs.Str.{bytes_eq}
use Rattle.rc_model.specs.Database.{Database, IsDatabase}
use Rattle.rc_model.proofs.ByteOrder.{one_place}
use Rattle.rc_model.proofs.Tests.{told}
use Rattle.rc_update.specs.Carrying.{IsTwin}
use Rattle.rc_update.specs.Conversions.{Conversion, conversion_for, counterpart, is_taken, name_by}
use Rattle.rc_update.specs.Distinct.{AreDistinct, AreDistinctBehind}

-- what the first of a list says, by its test
first_for : (first : Conversion) (more : List Conversion) (name : List ℕ)
    → bytes_eq first.old name ≡ true → conversion_for (first ∷ more) name ≡ Some first
first_for first more name is =
    ap (λ (b : Bool). if b then Some first else conversion_for more name) is

later_for : (first : Conversion) (more : List Conversion) (name : List ℕ)
    → bytes_eq first.old name ≡ false
    → conversion_for (first ∷ more) name ≡ conversion_for more name
later_for first more name is =
    ap (λ (b : Bool). if b then Some first else conversion_for more name) is

first_taken : (first : Conversion) (more : List Conversion) (name : List ℕ)
    → bytes_eq first.new name ≡ true → is_taken (first ∷ more) name ≡ true
first_taken first more name is = ap (λ (b : Bool). if b then true else is_taken more name) is

later_taken : (first : Conversion) (more : List Conversion) (name : List ℕ)
    → bytes_eq first.new name ≡ false → is_taken (first ∷ more) name ≡ is_taken more name
later_taken first more name is = ap (λ (b : Bool). if b then true else is_taken more name) is

-- what is taken in the rest is taken
taken_later : (first : Conversion) (more : List Conversion) (name : List ℕ)
    → is_taken more name ≡ true → is_taken (first ∷ more) name ≡ true
taken_later first more name rest =
    told (bytes_eq first.new name) (is_taken (first ∷ more) name ≡ true)
    (first_taken first more name) (λ no. later_taken first more name no ∙ rest)

-- the new name of a conversion is taken
new_taken : (list : List Conversion) (name : List ℕ) (one : Conversion)
    → conversion_for list name ≡ Some one → is_taken list one.new ≡ true
new_taken [] name one is = let bad : None ≡ Some one = is in cc
new_taken (first ∷ more) name one is = told (bytes_eq first.old name)
    (is_taken (first ∷ more) one.new ≡ true)
    (λ yes.
    let same : first ≡ one = same_Some first one (sym (first_for first more name yes) ∙ is) in
    first_taken first more one.new ((bytes_eq-Decides first.new one.new).1
    (ap (λ (c : Conversion). c.new) same)))
    (λ no. taken_later first more one.new
    (new_taken more name one (sym (later_for first more name no) ∙ is)))

-- what is taken in front is taken in all of it, and what stands at the end is
taken_front : (front back : List Conversion) (name : List ℕ) → is_taken front name ≡ true
    → is_taken (front ++ back) name ≡ true
taken_front [] back name is = absurd (false≢true is)
taken_front (first ∷ more) back name is = told (bytes_eq first.new name)
    (is_taken (first ∷ (more ++ back)) name ≡ true)
    (first_taken first (more ++ back) name)
    (λ no. taken_later first (more ++ back) name
    (taken_front more back name (sym (later_taken first more name no) ∙ is)))

taken_last : (front : List Conversion) (one : Conversion)
    → is_taken (front ++ one ∷ []) one.new ≡ true
taken_last [] one = first_taken one [] one.new ((bytes_eq-Decides one.new one.new).1 refl)
taken_last (first ∷ more) one =
    taken_later first (more ++ one ∷ []) one.new (taken_last more one)

-- the new name of a conversion is not taken before
not_before : (before list : List Conversion) (name : List ℕ) (one : Conversion)
    → AreDistinctBehind before list → conversion_for list name ≡ Some one
    → is_taken before one.new ≡ true → ⊥
not_before before [] name one apart is taken = let bad : None ≡ Some one = is in cc
not_before before (first ∷ more) name one apart is taken = told (bytes_eq first.old name) ⊥
    (λ yes.
    let same : first ≡ one = same_Some first one (sym (first_for first more name yes) ∙ is) in
    false≢true (sym apart.0.1 ∙ ap (λ (c : Conversion). is_taken before c.new) same ∙ taken))
    (λ no. not_before (before ++ first ∷ []) more name one apart.1
    (sym (later_for first more name no) ∙ is)
    (taken_front before (first ∷ []) one.new taken))

-- the new name of the first one is that of no later one
not_later : (before more : List Conversion) (first : Conversion) (name : List ℕ)
    (one : Conversion) → AreDistinctBehind (before ++ first ∷ []) more
    → conversion_for more name ≡ Some one → first.new ≡ one.new → ⊥
not_later before more first name one apart is same =
    not_before (before ++ first ∷ []) more name one apart is
    (subst (λ (n : List ℕ). is_taken (before ++ first ∷ []) n ≡ true) same
    (taken_last before first))

-- conversions of one new name are of one old name
one_old : (before list : List Conversion) (a b : List ℕ) (c d : Conversion)
    → AreDistinctBehind before list → conversion_for list a ≡ Some c
    → conversion_for list b ≡ Some d → c.new ≡ d.new → a ≡ b
one_old before [] a b c d apart is also same = let bad : None ≡ Some c = is in cc
one_old before (first ∷ more) a b c d apart is also same = told (bytes_eq first.old a) (a ≡ b)
    (λ yes. told (bytes_eq first.old b) (a ≡ b)
    (λ too. sym ((bytes_eq-Decides first.old a).0 yes) ∙ (bytes_eq-Decides first.old b).0 too)
    (λ no.
    let at : first ≡ c = same_Some first c (sym (first_for first more a yes) ∙ is) in
    absurd (not_later before more first b d apart.1 (sym (later_for first more b no) ∙ also)
    (ap (λ (x : Conversion). x.new) at ∙ same))))
    (λ off. told (bytes_eq first.old b) (a ≡ b)
    (λ too.
    let at : first ≡ d = same_Some first d (sym (first_for first more b too) ∙ also) in
    absurd (not_later before more first a c apart.1 (sym (later_for first more a off) ∙ is)
    (ap (λ (x : Conversion). x.new) at ∙ sym same)))
    (λ no. one_old (before ++ first ∷ []) more a b c d apart.1
    (sym (later_for first more a off) ∙ is) (sym (later_for first more b no) ∙ also) same))

-- names that go on as one are one
one_name : (list : List Conversion) (a b x : List ℕ) → AreDistinct list
    → counterpart list a ≡ Some x → counterpart list b ≡ Some x → a ≡ b
one_name list a b x apart on also =
    by (conversion_for list a) (conversion_for list b) (is_taken list a) (is_taken list b)
    refl refl refl refl on also
  where
    by : (o p : Option Conversion) (t u : Bool) → conversion_for list a ≡ o
        → conversion_for list b ≡ p → is_taken list a ≡ t → is_taken list b ≡ u
        → name_by o t a ≡ Some x → name_by p u b ≡ Some x → a ≡ b
    by (Some c) (Some d) t u is too _ _ on also =
        one_old [] list a b c d apart is too
        (same_Some c.new x on ∙ sym (same_Some d.new x also))
    by (Some c) None t true is too _ _ on also = let bad : None ≡ Some x = also in cc
    by (Some c) None t false is too _ free on also = absurd (false≢true (sym free
        ∙ ap (is_taken list) (same_Some b x also ∙ sym (same_Some c.new x on))
        ∙ new_taken list a c is))
    by None (Some d) true u is too _ _ on also = let bad : None ≡ Some x = on in cc
    by None (Some d) false u is too free _ on also = absurd (false≢true (sym free
        ∙ ap (is_taken list) (same_Some a x on ∙ sym (same_Some d.new x also))
        ∙ new_taken list b d too))
    by None None true u is too _ _ on also = let bad : None ≡ Some x = on in cc
    by None None false true is too _ _ on also = let bad : None ≡ Some x = also in cc
    by None None false false is too _ _ on also =
        same_Some a x on ∙ sym (same_Some b x also)

pub none_as_one : (old new : Database) (list : List Conversion) (s t u : ℕ) → IsDatabase old
    → AreDistinct list → IsTwin old new list s u → IsTwin old new list t u → s ≡ t
none_as_one old new list s t u od apart (a, x, at, on, there) (b, y, bt, also, too) =
    let one : x ≡ y = same_Some x y (sym there ∙ too) in
    let same : a ≡ b = one_name list a b y apart (on ∙ ap Some one) also in
    one_place old.names b s t od.names.order (at ∙ ap Some same) bt
