-- Lists of places that grow by what definitions list.
use Rattle.std.proofs.Common.{◌≡◌, ◌∙◌, ℕ, ◌+◌, ◌<◌, ◌⊎◌, ◌↔◌, inl, inr, List, [], ◌∷◌, ◌++◌}
use Rattle.std.proofs.Common.{length, take, map, replicate, get_or, slice_get, slice_index_or}
use Rattle.std.proofs.Common.{slice_set, Contains, Option, Some, Result, Ok, Err, OnOk}
use Rattle.std.proofs.Common.{refl, sym, ap, subst, arith}
use Rattle.std.specs.Global.{Vec}
use Rattle.std.specs.Option.{option_to_list}
use Rattle.std.proofs.lemmas.Bool.{cases_eq}
use Rattle.std.proofs.lemmas.List.{take_more, get_or-set_same, get_or-set_other, map-set}
use Rattle.std.proofs.lemmas.List.{map-append, length-replicate}
use Rattle.std.proofs.lemmas.List.Elements.{Contains-push, Contains-push_cases}
use Rattle.std.proofs.lemmas.List.Elements.{Contains-append_left}
use Rattle.std.proofs.lemmas.Option.{get_or_from_slice_get}
use Rattle.rc_model.specs.Names.{IsInByteOrder}
use Rattle.rc_model.specs.Graph.{Needs}
use Rattle.rc_compile.specs.Rows.{rows}
use Rattle.rc_compile.proofs.RowLemmas.{row_at, length-rows}
use Rattle.rc_source.specs.Meaning.{Meaning}
use Rattle.rc_source.specs.declared.definition.Definition.{Definition}
use Rattle.rc_source.specs.Said.{meaning_of}
use Rattle.rc_compile.specs.declared.members.rows.Listed.{Listed}
use Rattle.rc_compile.specs.Mirror.{listed_of, HasListed, Mirrors}
use Rattle.rc_model.proofs.ByteOrder.{one_place}
use Rattle.rc_model.proofs.Members.{contains_at}
use Rattle.rc_graph.proofs.RowLemmas.{no_need}

-- the list has the places of some names too
abbrev pub Puts : List (List ℕ) → List ℕ → List (List ℕ) → List ℕ → Type 0
Puts to old names new = (t : ℕ)
    → Contains new t
    ↔ (Contains old t ⊎ ((b : List ℕ) × (slice_get to t ≡ Some b) × Contains names b))

-- the place of one name is put in
pub place_put : (to : List (List ℕ)) (old new : List ℕ) (id : ℕ) (name : List ℕ) → IsInByteOrder to
    → slice_get to id ≡ Some name → new ≡ old ++ id ∷ []
    → (t : ℕ) → Contains new t ↔ (Contains old t ⊎ (slice_get to t ≡ Some name))
place_put to old new id name up at pushed t = (
  λ there. elim (Contains-push_cases old id t
      (subst (λ (xs : List ℕ). Contains xs t) pushed there)) [
        | inl was ↦ inl was
        | inr same ↦ inr (subst (λ k. slice_get to k ≡ Some name) same at)
      ],
  λ either. subst (λ (xs : List ℕ). Contains xs t) (sym pushed) (elim either [
    | inl was ↦ Contains-append_left old (id ∷ []) t was
    | inr here ↦
        subst (Contains (old ++ id ∷ [])) (one_place to name id t up at here) (Contains-push old id)
  ]),
)

-- a name that is not in the table has no place
pub place_passed : (to : List (List ℕ)) (old : List ℕ) (name : List ℕ) → (Contains to name → ⊥)
    → (t : ℕ) → Contains old t ↔ (Contains old t ⊎ (slice_get to t ≡ Some name))
place_passed to old name missing t = (
  inl,
  λ either. elim either [
    | inl was ↦ was
    | inr at ↦ absurd (missing (contains_at to t name at))
  ],
)

pub no_name : (b : List ℕ) → Contains [] b → ⊥
no_name b (k, within, here) = omega arith

pub puts_none : (to : List (List ℕ)) (old : List ℕ) → Puts to old [] old
puts_none to old t =
    (inl, λ either. elim either [ inl was ↦ was | inr there ↦ absurd (no_name there.0 there.2) ])

-- one more name is put in
pub puts_more : (to : List (List ℕ)) (old mid new : List ℕ) (names : List (List ℕ)) (name : List ℕ)
    → Puts to old names mid
    → ((t : ℕ) → Contains new t ↔ (Contains mid t ⊎ (slice_get to t ≡ Some name)))
    → Puts to old (names ++ name ∷ []) new
puts_more to old mid new names name puts more t = (
  λ there. elim ((more t).0 there) [
    | inl was ↦ elim ((puts t).0 was) [
      | inl first ↦ inl first
      | inr listed ↦
          inr (listed.0, listed.1, Contains-append_left names (name ∷ []) listed.0 listed.2)
    ]
    | inr here ↦ inr (name, here, Contains-push names name)
  ],
  λ either. elim either [
    | inl first ↦ (more t).1 (inl ((puts t).1 (inl first)))
    | inr listed ↦ elim (Contains-push_cases names name listed.0 listed.2) [
      | inl earlier ↦ (more t).1 (inl ((puts t).1 (inr (listed.0, listed.1, earlier))))
      | inr last ↦ (more t).1 (inr (listed.1 ∙ ap (λ b. Some b) (sym last)))
    ]
  ],
)

-- the one name of an option is put in
pub puts_one : {T E : Type 0} (r : Result T E) (to : List (List ℕ)) (old new : List ℕ)
    (o : Option (List ℕ)) (name : List ℕ) → o ≡ Some name
    → OnOk r ((t : ℕ) → Contains new t ↔ (Contains old t ⊎ (slice_get to t ≡ Some name)))
    → OnOk r (Puts to old (option_to_list o) new)
puts_one (Ok x) to old new o name is more =
    subst (λ p. Puts to old (option_to_list p) new) (sym is)
    (puts_more to old old new [] name (puts_none to old) more)
puts_one (Err e) to old new o name is more = tt

-- a row of a table is put in anew
pub row_put : (vectors : List (Vec ℕ)) (id : ℕ) (old v : Vec ℕ) (from : List (List ℕ))
    (name : List ℕ) (Q : ℕ → Type 0) → id < length vectors → old ≡ slice_index_or vectors id old
    → IsInByteOrder from → slice_get from id ≡ Some name
    → ((t : ℕ) → Contains v.items t ↔ (Contains old.items t ⊎ Q t))
    → (s t : ℕ) → Needs (rows (slice_set vectors id v)) s t
    ↔ (Needs (rows vectors) s t ⊎ ((slice_get from s ≡ Some name) × Q t))
row_put vectors id old v from name Q low is up at members s t =
    let table : rows (slice_set vectors id v) ≡ slice_set (rows vectors) id v.items =
    map-set (λ v. v.items) vectors id v in
    let within : id < length (rows vectors) = omega (arith, length-rows vectors) in
    let Row : List ℕ → Type 0 = λ row. Contains row t in
    elim (cases_eq s id) [
      | inl same ↦
          let row : slice_index_or (rows (slice_set vectors id v)) s [] ≡ v.items =
          ap (λ (ls : List (List ℕ)). slice_index_or ls s []) table
          ∙ ap (λ k. slice_index_or (slice_set (rows vectors) id v.items) k []) same
          ∙ get_or-set_same (rows vectors) id v.items [] within in
          let was : slice_index_or (rows vectors) s [] ≡ old.items =
          ap (λ k. slice_index_or (rows vectors) k []) same ∙ row_at vectors id old low
          ∙ ap (λ v. v.items) (sym is) in (
            λ there. elim ((members t).0 (subst Row row there)) [
              | inl old ↦ inl (subst Row (sym was) old)
              | inr new ↦ inr (subst (λ k. slice_get from k ≡ Some name) (sym same) at, new)
            ],
            λ either. subst Row (sym row)
                ((members t).1 (elim either [
                  | inl old ↦ inl (subst Row was old)
                  | inr new ↦ inr new.1
                ])),
          )
      | inr other ↦
          let row : slice_index_or (rows (slice_set vectors id v)) s []
          ≡ slice_index_or (rows vectors) s [] =
          ap (λ (ls : List (List ℕ)). slice_index_or ls s []) table
          ∙ get_or-set_other (rows vectors) id s v.items [] other in (
            λ there. inl (subst Row row there),
            λ either. elim either [
              | inl old ↦ subst Row (sym row) old
              | inr new ↦ absurd (other (one_place from name s id up new.0 at))
            ],
          )
    ]

pub row_passed : (lists : List (List ℕ)) (from : List (List ℕ)) (name : List ℕ) (Q : ℕ → Type 0)
    → (Contains from name → ⊥) → (s t : ℕ)
    → Needs lists s t ↔ (Needs lists s t ⊎ ((slice_get from s ≡ Some name) × Q t))
row_passed lists from name Q missing s t = (
  inl,
  λ either. elim either [
    | inl old ↦ old
    | inr new ↦ absurd (missing (contains_at from s name new.0))
  ],
)

pub mirrors_none : (which : Listed) (from to lists : List (List ℕ)) (n : ℕ) → lists ≡ replicate n []
    → n ≡ length from → Mirrors (HasListed which []) from to lists
mirrors_none which from to lists n empty few = record {
  few = ap length empty ∙ length-replicate n [] ∙ few;
  same = λ s t. (
    λ there. absurd (no_need n s t (subst (λ (ls : List (List ℕ)). Needs ls s t) empty there)),
    λ named. let k : ℕ = named.4.1.0 in let low : k < 0 = named.4.1.1 in absurd (omega arith),
  );
}

-- what one more definition lists
listed_more : (which : Listed) (ms : List Meaning) (m : Meaning) (a b : List ℕ)
    → HasListed which (ms ++ m ∷ []) a b
    ↔ (HasListed which ms a b ⊎ ((m.name ≡ a) × Contains (listed_of which m) b))
listed_more which ms m a b = (
  λ has. elim (Contains-push_cases ms m has.0 has.1) [
    | inl earlier ↦ inl (has.0, earlier, has.2, has.3)
    | inr last ↦
        inr (
          subst (λ (x : Meaning). x.name ≡ a) (sym last) has.2,
          subst (λ x. Contains (listed_of which x) b) (sym last) has.3,
        )
  ],
  λ either. elim either [
    | inl has ↦ (has.0, Contains-append_left ms (m ∷ []) has.0 has.1, has.2, has.3)
    | inr last ↦ (m, Contains-push ms m, last.0, last.1)
  ],
)

pub mirrors_more : (which : Listed) (ms : List Meaning) (m : Meaning)
    (from to old new : List (List ℕ)) → Mirrors (HasListed which ms) from to old
    → length new ≡ length old
    → ((s t : ℕ)
    → Needs new s t
    ↔ (Needs old s t
    ⊎ ((slice_get from s ≡ Some m.name)
    × ((b : List ℕ) × (slice_get to t ≡ Some b) × Contains (listed_of which m) b))))
    → Mirrors (HasListed which (ms ++ m ∷ [])) from to new
mirrors_more which ms m from to old new mirrors few puts = record {
  few = few ∙ mirrors.few;
  same = λ s t. (
    λ there. elim ((puts s t).0 there) [
      | inl was ↦
          let named = (mirrors.same s t).0 was in (
            named.0,
            named.1,
            named.2,
            named.3,
            (listed_more which ms m named.0 named.1).1 (inl named.4),
          )
      | inr now ↦ (
        m.name,
        now.1.0,
        now.0,
        now.1.1,
        (listed_more which ms m m.name now.1.0).1 (inr (refl, now.1.2)),
      )
    ],
    λ named. (puts s t).1 (elim ((listed_more which ms m named.0 named.1).0 named.4) [
      | inl was ↦ inl ((mirrors.same s t).1 (named.0, named.1, named.2, named.3, was))
      | inr last ↦ inr (named.2 ∙ ap (λ x. Some x) (sym last.0), (named.1, named.3, last.1))
    ]),
  );
}

-- the meanings of the definitions passed
pub meanings_more : (definitions : List Definition) (i : ℕ) (d : Definition)
    → i < length definitions → d ≡ get_or definitions i d
    → map meaning_of (take (i + 1) definitions) ≡ map meaning_of (take i definitions)
    ++ meaning_of d ∷ []
meanings_more definitions i d low is =
    ap (λ (ds : List Definition). map meaning_of ds) (take_more definitions i d low)
    ∙ map-append meaning_of (take i definitions) (get_or definitions i d ∷ [])
    ∙ ap (λ x. map meaning_of (take i definitions) ++ meaning_of x ∷ []) (sym is)

-- what one more definition lists is put in a table that was lent
pub mirrors_next : (which : Listed) (ms : List Meaning) (m : Meaning) (from to : List (List ℕ))
    (items lent new : List (Vec ℕ)) → Mirrors (HasListed which ms) from to (rows items)
    → lent ≡ items → length new ≡ length lent
    → ((s t : ℕ)
    → Needs (rows new) s t
    ↔ (Needs (rows lent) s t
    ⊎ ((slice_get from s ≡ Some m.name)
    × ((b : List ℕ) × (slice_get to t ≡ Some b) × Contains (listed_of which m) b))))
    → Mirrors (HasListed which (ms ++ m ∷ [])) from to (rows new)
mirrors_next which ms m from to items lent new mirrors same few puts =
    mirrors_more which ms m from to (rows lent) (rows new)
    (subst (λ (vs : List (Vec ℕ)). Mirrors (HasListed which ms) from to (rows vs))
    (sym same) mirrors)
    (length-rows new ∙ few ∙ sym (length-rows lent)) puts

-- what is put in by a list that is said otherwise
pub puts_as : {T E : Type 0} (r : Result T E) (to : List (List ℕ)) (old new : List ℕ)
    (names list : List (List ℕ)) → names ≡ list → OnOk r (Puts to old names new)
    → OnOk r (Puts to old list new)
puts_as (Ok x) to old new names list same puts = subst (λ ns. Puts to old ns new) same puts
puts_as (Err e) to old new names list same puts = tt

-- the name at one more place is shown
pub shown_more : (names : List (List ℕ)) (ids : List ℕ) (i : ℕ) (shown new : List (List ℕ))
    (copy name : List ℕ) → i < length ids
    → shown ≡ map (λ s. slice_index_or names s []) (take i ids)
    → slice_get names (get_or ids i 0) ≡ Some name → copy ≡ name → new ≡ shown ++ copy ∷ []
    → new ≡ map (λ s. slice_index_or names s []) (take (i + 1) ids)
shown_more names ids i shown new copy name low so_far at same pushed =
    let f : ℕ → List ℕ = λ s. slice_index_or names s [] in
    let here : copy ≡ f (get_or ids i 0) =
    same ∙ sym (get_or_from_slice_get names (get_or ids i 0) name [] at) in
    pushed ∙ ap (λ (xs : List (List ℕ)). xs ++ copy ∷ []) so_far
    ∙ ap (λ x. map f (take i ids) ++ x ∷ []) here
    ∙ sym (map-append f (take i ids) (get_or ids i 0 ∷ []))
    ∙ ap (λ (xs : List ℕ). map f xs) (sym (take_more ids i 0 low))
