-- What a draft has after the needs of some services were added.
use Rattle.std.proofs.Common.{◌≡◌, ◌∙◌, ℕ, ◌+◌, ◌<◌, ◌≤◌, ◌↔◌, ◌⊎◌, inl, inr, List, [], ◌∷◌, ◌++◌}
use Rattle.std.proofs.Common.{length, map, replicate, get_or, slice_get, Some, None}
use Rattle.std.proofs.Common.{All, Contains, Bool, true, arith, refl, sym, ap, subst}
use Rattle.std.proofs.lemmas.Bool.{cases_lt}
use Rattle.std.proofs.lemmas.List.{length-map, length-replicate, get_or-map}
use Rattle.std.proofs.lemmas.List.{get_or_default, get_or_past, same_lists, map-append}
use Rattle.std.proofs.lemmas.List.Elements.{Contains-append_left, Contains-get_or, Contains-push}
use Rattle.std.proofs.lemmas.List.Elements.{Contains-push_cases}
use Rattle.rc_model.specs.declared.Kind.TheVariants as kinds
use Rattle.rc_model.specs.Names.{Has, Holds, IsInByteOrder}
use Rattle.rc_model.specs.Graph.{Needs, AreNeeds, EachNeedsNext}
use Rattle.rc_graph.specs.Cycle.{IsCycle}
use Rattle.rc_graph.proofs.RowLemmas.{no_need}
use Rattle.rc_dbtext.specs.Text.{ServiceText, OfLongrun}
use Rattle.rc_dbtext.specs.Meaning.{service_names, EachNeedsNextByName, IsCyclic, NeedsByName}
use Rattle.rc_dbtext.specs.Parts.{AreNeedsOf, IsNamed}
use Rattle.rc_dbtext.specs.Spelling.{name_at}
use Rattle.rc_model.proofs.ByteOrder.{one_place}
use Rattle.rc_dbtext.proofs.Naming.{mapped_member, named_back}

-- what stands past the end of the services
abbrev pub no_service : ServiceText
no_service = record {
  head = record { name = []; kind = kinds.Longrun; essential = true; limit_up = 0; limit_down = 0 };
  needs = [];
  body = OfLongrun None;
}

-- the pairs of a service with the names that were needed so far are in
pub record HasAdded (names : List (List ℕ)) (service : ℕ) (old new : List (List ℕ))
    (needs : List (List ℕ)) : Type 0 where
  pub bound : length new ≡ length old
  pub pairs : (s t : ℕ) → Needs new s t ↔ (Needs old s t ⊎ ((s ≡ service) × IsNamed names needs t))

named_none : (names : List (List ℕ)) (t : ℕ) → IsNamed names [] t → ⊥
named_none names t named = let within : named.2.0 < 0 = named.2.1 in omega arith

-- nothing was added
pub added_none : (names : List (List ℕ)) (service : ℕ) (draft : List (List ℕ))
    → HasAdded names service draft draft []
added_none names service draft =
    record {
      bound = refl;
      pairs =
          λ s t. (
            λ h. inl h,
            λ h. elim h [
              | inl had ↦ had
              | inr named ↦ absurd (named_none names t named.1)
            ],
          );
    }

-- one text more names one place more
pub named_push : (names needs : List (List ℕ)) (need : List ℕ) (id t : ℕ) → IsInByteOrder names
    → slice_get names id ≡ Some need
    → IsNamed names (needs ++ need ∷ []) t ↔ (IsNamed names needs t ⊎ (t ≡ id))
named_push names needs need id t order found = (
  λ (name, at, listed). elim (Contains-push_cases needs need name listed) [
    | inl earlier ↦ inl (name, at, earlier)
    | inr same ↦ inr (one_place names need t id order (at ∙ ap Some (sym same)) found)
  ],
  λ h. elim h [
    | inl (name, at, listed) ↦ (name, at, Contains-append_left needs (need ∷ []) name listed)
    | inr same ↦ (need, ap (slice_get names) same ∙ found, Contains-push needs need)
  ],
)

-- one more text, and the set has its place too
pub named_one : (names texts : List (List ℕ)) (text : List ℕ) (id : ℕ) (old new : List Bool)
    → IsInByteOrder names → slice_get names id ≡ Some text
    → Holds old (IsNamed names texts) → Holds new (λ s. Has old s ⊎ (s ≡ id))
    → Holds new (IsNamed names (texts ++ text ∷ []))
named_one names texts text id old new order found before after s = (
  λ has. elim ((after s).0 has) [
    | inl had ↦ (named_push names texts text id s order found).1 (inl ((before s).0 had))
    | inr same ↦ (named_push names texts text id s order found).1 (inr same)
  ],
  λ named. elim ((named_push names texts text id s order found).0 named) [
    | inl earlier ↦ (after s).1 (inl ((before s).1 earlier))
    | inr same ↦ (after s).1 (inr same)
  ],
)

-- one more need was added
pub added_one : (names : List (List ℕ)) (service : ℕ) (old mid new needs : List (List ℕ))
    (need : List ℕ) (id : ℕ) → IsInByteOrder names → HasAdded names service old mid needs
    → slice_get names id ≡ Some need → length new ≡ length mid
    → ((s t : ℕ) → Needs new s t ↔ (Needs mid s t ⊎ ((s ≡ service) × (t ≡ id))))
    → HasAdded names service old new (needs ++ need ∷ [])
added_one names service old mid new needs need id order before found bound pairs =
    record {
      bound = bound ∙ before.bound;
      pairs = λ s t. (
        λ h. elim ((pairs s t).0 h) [
          | inl in_mid ↦ elim ((before.pairs s t).0 in_mid) [
            | inl in_old ↦ inl in_old
            | inr named ↦
                inr (named.0, (named_push names needs need id t order found).1 (inl named.1))
          ]
          | inr here ↦ inr (here.0, (named_push names needs need id t order found).1 (inr here.1))
        ],
        λ h. elim h [
          | inl in_old ↦ (pairs s t).1 (inl ((before.pairs s t).1 (inl in_old)))
          | inr named ↦ elim ((named_push names needs need id t order found).0 named.1) [
            | inl earlier ↦ (pairs s t).1 (inl ((before.pairs s t).1 (inr (named.0, earlier))))
            | inr here ↦ (pairs s t).1 (inr (named.0, here))
          ]
        ],
      );
    }

-- the services below a place are in, and no others
pub record HasDrafted (names : List (List ℕ)) (services : List ServiceText) (draft : List (List ℕ))
    (end : ℕ) : Type 0 where
  pub bound : length draft ≡ length services
  pub done : (s t : ℕ) → s < end
      → Needs draft s t ↔ IsNamed names (get_or services s no_service).needs t
  pub left : (s t : ℕ) → end ≤ s → Needs draft s t → ⊥

-- no service is in
pub drafted_none : (names : List (List ℕ)) (services : List ServiceText) (count : ℕ)
    → count ≡ length services → HasDrafted names services (replicate count []) 0
drafted_none names services count all =
    record {
      bound = length-replicate {A = List ℕ} count [] ∙ all;
      done = λ s t low. absurd (omega arith);
      left = λ s t past h. no_need count s t h;
    }

-- one more service is in
pub drafted_one : (names : List (List ℕ)) (services : List ServiceText) (mid new : List (List ℕ))
    (s : ℕ) → HasDrafted names services mid s
    → HasAdded names s mid new (get_or services s no_service).needs
    → HasDrafted names services new (s + 1)
drafted_one names services mid new s before added =
    record {
      bound = added.bound ∙ before.bound;
      done = λ a t low. (
        λ h. elim ((added.pairs a t).0 h) [
          | inl in_mid ↦ elim (cases_lt a s) [
            | inl lower ↦ (before.done a t lower).0 in_mid
            | inr upper ↦ absurd (before.left a t upper in_mid)
          ]
          | inr named ↦
              subst (λ n. IsNamed names (get_or services n no_service).needs t)
              (sym named.0) named.1
        ],
        λ h. elim (cases_lt a s) [
          | inl lower ↦ (added.pairs a t).1 (inl ((before.done a t lower).1 h))
          | inr upper ↦
              let here : a ≡ s = omega arith in
              (added.pairs a t).1
              (inr (here, subst (λ n. IsNamed names (get_or services n no_service).needs t) here h))
        ],
      );
      left = λ a t past h. elim ((added.pairs a t).0 h) [
        | inl in_mid ↦ before.left a t (omega arith) in_mid
        | inr named ↦ let here : a ≡ s = named.0 in absurd (omega arith)
      ];
    }

-- what the services below a place need are names
abbrev pub NeedKnown : List (List ℕ) → List ServiceText → ℕ → Type 0
NeedKnown names services end =
    (k : ℕ) → k < end → All (Contains names) (get_or services k no_service).needs

pub known_one : (names : List (List ℕ)) (services : List ServiceText) (s : ℕ)
    → NeedKnown names services s → All (Contains names) (get_or services s no_service).needs
    → NeedKnown names services (s + 1)
known_one names services s before one k low = elim (cases_lt k s) [
  | inl lower ↦ before k lower
  | inr upper ↦
      let here : k ≡ s = omega arith in
      let P : ℕ → Type 0 =
      λ n. All (Contains names) (get_or services n no_service).needs in
      subst P (sym here) one
]

pub known_all : (names : List (List ℕ)) (services : List ServiceText) (end : ℕ)
    → NeedKnown names services end → length services ≤ end
    → All (λ s. All (Contains names) s.needs) services
known_all names services end known all = λ k d within.
    let P : ServiceText → Type 0 = λ s. All (Contains names) s.needs in
    subst P (get_or_default services k no_service d within) (known k (omega arith))

-- where all services are in, the lists name what they need
pub drafted_all : (names : List (List ℕ)) (services : List ServiceText) (draft : List (List ℕ))
    (end : ℕ) → HasDrafted names services draft end → length services ≤ end → AreNeeds draft
    → IsInByteOrder names → All (λ s. IsInByteOrder s.needs) services
    → All (λ s. All (Contains names) s.needs) services → AreNeedsOf names services draft
drafted_all names services draft end drafted all lists order ordered known =
    same_lists (map (map (name_at names)) draft) (map (λ s. s.needs) services)
    (length-map draft (map (name_at names)) ∙ drafted.bound
    ∙ sym (length-map services (λ (s : ServiceText). s.needs)))
    (λ k d within.
    let inside : k < length draft = omega (arith, length-map draft (map (name_at names))) in
    let below : k < length services = omega (arith, drafted.bound) in
    let row : List ℕ = get_or draft k [] in
    let needs : List (List ℕ) = (get_or services k no_service).needs in
    get_or-map (map (name_at names)) draft k [] d inside
    ∙ named_back names needs row (known k no_service below) (λ t. drafted.done k t (omega arith))
    order (ordered k no_service below) (lists.ascending k)
    ∙ sym (get_or-map (λ (s : ServiceText). s.needs) services k no_service d below))

module _ (names : List (List ℕ)) (services : List ServiceText) (lists : List (List ℕ))
    (are : names ≡ service_names services) (needs : AreNeedsOf names services lists) where
  -- the list at a place names what the service there needs
  pub row_at : (k : ℕ) → k < length lists
      → (map (name_at names) (get_or lists k []) ≡ (get_or services k no_service).needs)
      × (k < length services)
  row_at k within =
      let below : k < length services = omega (
        arith,
        length-map lists (map (name_at names)),
        length-map services (λ (s : ServiceText). s.needs),
        ap length needs,
      ) in (
        sym (get_or-map (map (name_at names)) lists k [] [] within)
            ∙ ap (λ rows. get_or rows k []) needs ∙ get_or-map (λ (s : ServiceText). s.needs)
            services k no_service [] below,
        below,
      )

  by_name : (s t : ℕ) → Needs lists s t → NeedsByName services (name_at names s) (name_at names t)
  by_name s t need = elim (cases_lt s (length lists)) [
    | inl within ↦
        let row = row_at s within in (
          get_or services s no_service,
          Contains-get_or services s no_service row.1,
          sym (get_or-map (λ (x : ServiceText). x.head.name) services s no_service [] row.1)
              ∙ ap (λ ns. name_at ns s) (sym are),
          subst (λ ns. Contains ns (name_at names t)) row.0
              (mapped_member (name_at names) (get_or lists s []) t need),
        )
    | inr past ↦
        let has : Contains [] t =
        subst (λ (xs : List ℕ). Contains xs t) (get_or_past lists s [] past) need in
        let within : has.0 < 0 = has.1 in
        absurd (omega arith)
  ]

  each_by_name : (ids : List ℕ) → EachNeedsNext lists ids
      → EachNeedsNextByName services (map (name_at names) ids)
  each_by_name [] each = tt
  each_by_name (s ∷ []) each = tt
  each_by_name (s ∷ t ∷ rest) each = (by_name s t each.0, each_by_name (t ∷ rest) each.1)

  -- a cycle of places is one of names
  pub cycle_by_name : (cycle : List ℕ) → IsCycle lists cycle → IsCyclic services
  cycle_by_name [] none = absurd none
  cycle_by_name (first ∷ rest) cycle = (
    name_at names first,
    map (name_at names) rest,
    subst (λ ns. EachNeedsNextByName services (name_at names first ∷ ns))
        (map-append (name_at names) rest (first ∷ []))
        (each_by_name (first ∷ (rest ++ first ∷ [])) cycle.2),
  )
