-- The journal's text, piece by piece: signs of services, members of bundles, lines of entries.
use Rattle.std.proofs.Common.{◌≡◌, ◌∙◌, ◌⊎◌, ◌↔◌, inl, inr, ℕ, zero, suc, ◌+◌, ◌<◌, Bool, true}
use Rattle.std.proofs.Common.{false, List, [], ◌∷◌, ◌++◌, Some, length, take, All, Contains}
use Rattle.std.proofs.Common.{slice_get, slice_index_or, get_or, if◌then◌else◌, ◌≤◌, refl, ap, sym}
use Rattle.std.proofs.Common.{subst, arith, append_assoc, add-one}
use Rattle.std.proofs.lemmas.List.{append-nil, take_all, take_more}
use Rattle.std.proofs.lemmas.List.Elements.{Contains-get_or, Contains-push, Contains-push_cases}
use Rattle.std.proofs.lemmas.List.Elements.{Contains-append_left}
use Rattle.std.specs.List.{join_with_byte}
use Rattle.std.proofs.lemmas.Option.{slice_get_within}
use Rattle.rc_model.specs.Names.{Has, Holds}
use Rattle.rc_model.proofs.SetMembers.{has_within}
use Rattle.rc_model.specs.Line.{State, IsGained, Lists}
use Rattle.rc_render.specs.JournalText.{AreEntryLines, IsEntryLine, sign, signs}
use Rattle.rc_render.proofs.NameLemmas.{is_none, with_comma, join_more}

signs_suc : (names : List (List ℕ)) (from to : List Bool) (i : ℕ) (name : List ℕ)
    → slice_get names i ≡ Some name → i < length from → i < length to
    → signs (take (suc i) names) (take (suc i) from) (take (suc i) to)
    ≡ signs (take i names) (take i from) (take i to) ++ sign name (slice_index_or from i false)
    (slice_index_or to i false)
signs_suc [] from to i name at low within =
    let none : i < 0 = slice_get_within [] i name at in absurd (omega arith)
signs_suc (n ∷ names) [] to i name at low within = absurd (omega arith)
signs_suc (n ∷ names) (a ∷ from) [] i name at low within = absurd (omega arith)
signs_suc (n ∷ names) (a ∷ from) (b ∷ to) zero name at low within =
    let same : n ≡ name = (let e : Some n ≡ Some name = at in cc) in
    append-nil (sign n a b) ∙ ap (λ (x : List ℕ). sign x a b) same
signs_suc (n ∷ names) (a ∷ from) (b ∷ to) (suc i) name at low within =
    let l : i < length from = omega arith in let w : i < length to = omega arith in
    ap (λ (t : List ℕ). sign n a b ++ t) (signs_suc names from to i name at l w)
    ∙ sym (append_assoc (sign n a b) (signs (take i names) (take i from) (take i to))
    (sign name (slice_index_or from i false) (slice_index_or to i false)))

-- one more service
pub signs_more : (names : List (List ℕ)) (from to : List Bool) (i : ℕ) (name : List ℕ)
    → slice_get names i ≡ Some name → i < length from → i < length to
    → signs (take (i + 1) names) (take (i + 1) from) (take (i + 1) to)
    ≡ signs (take i names) (take i from) (take i to) ++ sign name (slice_index_or from i false)
    (slice_index_or to i false)
signs_more names from to i name at low within =
    rw add-one (signs_suc names from to i name at low within)

-- ids that are gained are below the bound
pub gained_below : (from to : List Bool) (ids : List ℕ) (bound : ℕ) → Lists (IsGained from to) ids
    → length to ≡ bound → All (λ id. id < bound) ids
gained_below from to ids bound lists is k d within =
    subst (λ (n : ℕ). get_or ids k d < n) is
    (has_within to (get_or ids k d) ((lists.same _).0 (Contains-get_or ids k d within)).0)

-- a set of the ids that are gained
pub gained_held : (from to set : List Bool) (ids : List ℕ) → Lists (IsGained from to) ids
    → Holds set (Contains ids) → Holds set (IsGained from to)
gained_held from to set ids lists holds s =
    (λ has. (lists.same s).0 ((holds s).0 has), λ gained. (holds s).1 ((lists.same s).1 gained))

-- the line of one more entry
pub one_more_entry : (names : List (List ℕ)) (place : ℕ) (before : List State) (a b : State)
    (text line : List ℕ) → AreEntryLines names place (before ++ a ∷ []) text
    → IsEntryLine names (place + length before) a b line
    → AreEntryLines names place (before ++ a ∷ b ∷ []) (text ++ line)
one_more_entry names place [] a b text line lines is =
    let here : IsEntryLine names place a b line =
    subst (λ (n : ℕ). IsEntryLine names n a b line) (omega arith) is in
    (line, [], here, refl, ap (λ (t : List ℕ). t ++ line) lines ∙ sym (append-nil line))
one_more_entry names place (x ∷ []) a b text line lines is =
    let (first, others, at, more, whole) = lines in
    let next : IsEntryLine names (suc place + length {A = State} []) a b line =
    subst (λ (n : ℕ). IsEntryLine names n a b line) (omega arith) is in (
      first,
      others ++ line,
      at,
      one_more_entry names (suc place) [] a b others line more next,
      ap (λ (t : List ℕ). t ++ line) whole ∙ append_assoc first others line,
    )
one_more_entry names place (x ∷ y ∷ before) a b text line lines is =
    let (first, others, at, more, whole) = lines in
    let next : IsEntryLine names (suc place + length (y ∷ before)) a b line =
    subst (λ (n : ℕ). IsEntryLine names n a b line) (omega arith) is in (
      first,
      others ++ line,
      at,
      one_more_entry names (suc place) (y ∷ before) a b others line more
          next,
      ap (λ (t : List ℕ). t ++ line) whole ∙ append_assoc first others line,
    )

-- flags of what came up and of what went down say which sign is shown
pub is_set_by : (from to gained : List Bool) (i : ℕ) (flag : Bool) → Holds gained (IsGained from to)
    → (flag ≡ true ↔ Has gained i)
    → flag ≡ true ↔ ((slice_index_or to i false ≡ true) × (slice_index_or from i false ≡ true → ⊥))
is_set_by from to gained i flag holds tells =
    (λ set. (holds i).0 (tells.0 set), λ moved. tells.1 ((holds i).1 moved))

-- all services, where all lists have one length
pub signs_all : (names : List (List ℕ)) (from to : List Bool) (n : ℕ) → length names ≤ n
    → length from ≤ n → length to ≤ n
    → signs (take n names) (take n from) (take n to) ≡ signs names from to
signs_all names from to n a b c =
    let x : take n names ≡ names = take_all n names a in
    let y : take n from ≡ from = take_all n from b in
    let z : take n to ≡ to = take_all n to c in
    cc

-- one more member
pub one_more_member : (old new : List Bool) (ids : List ℕ) (i : ℕ) → i < length ids
    → Holds old (Contains (take i ids)) → Holds new (λ s. Has old s ⊎ (s ≡ get_or ids i 0))
    → Holds new (Contains (take (i + 1) ids))
one_more_member old new ids i within before after s =
    let more = take_more ids i 0 within in (
      (λ has. subst (λ (xs : List ℕ). Contains xs s) (sym more) (elim ((after s).0 has) [
        | inl was ↦ Contains-append_left (take i ids) (get_or ids i 0 ∷ []) s ((before s).0 was)
        | inr is ↦
            subst (λ (x : ℕ). Contains (take i ids ++ get_or ids i 0 ∷ []) x) (sym is)
            (Contains-push (take i ids) (get_or ids i 0))
      ])),
      (λ among. (after s).1
          (elim (Contains-push_cases (take i ids) (get_or ids i 0) s
          (subst (λ (xs : List ℕ). Contains xs s) more among)) [
            | inl was ↦ inl ((before s).1 was)
            | inr is ↦ inr (sym is)
          ])),
    )

comma_is : (first : Bool) (name : List ℕ)
    → (if first then name else 44 ∷ name) ≡ with_comma first name
comma_is true name = refl
comma_is false name = refl

-- one more name between commas, after a text
pub member_more : (new old front name : List ℕ) (first : Bool) (before after : List (List ℕ))
    → new ≡ old ++ (if first then name else 44 ∷ name) → old ≡ front ++ join_with_byte 44 before
    → first ≡ is_none before
    → after ≡ before ++ name ∷ [] → new ≡ front ++ join_with_byte 44 after
member_more new old front name first before after grows was empty is =
    grows ∙ (ap (λ (t : List ℕ). t ++ (if first then name else 44 ∷ name)) was
    ∙ (append_assoc front (join_with_byte 44 before) (if first then name else 44 ∷ name)
    ∙ ap (λ (t : List ℕ). front ++ t)
    (ap (λ (t : List ℕ). join_with_byte 44 before ++ t)
    (comma_is first name ∙ ap (λ (b : Bool). with_comma b name) empty)
    ∙ sym (ap (join_with_byte 44) is ∙ join_more before name))))

-- the parts of a line, one after the other
pub joined_line : (whole third second first place moves edit : List ℕ) → whole ≡ third ++ 10 ∷ []
    → third ≡ second ++ edit → second ≡ first ++ moves → first ≡ place
    → whole ≡ ((place ++ moves) ++ edit) ++ 10 ∷ []
joined_line whole third second first place moves edit a b c d = cc
