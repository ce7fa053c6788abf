-- A walk along lists of ids: what was seen, and what of it is still to be followed.
use Rattle.std.proofs.Common.{◌≡◌, ◌∙◌, ℕ, ◌+◌, ◌<◌, ◌≤◌, ◌⊎◌, ◌↔◌, inl, inr, List, [], ◌∷◌, ◌++◌}
use Rattle.std.proofs.Common.{Bool, not, length, count_by, Contains, refl, sym, subst, arith}
use Rattle.std.proofs.lemmas.List.Elements.{Contains-push, Contains-push_cases}
use Rattle.std.proofs.lemmas.List.Elements.{Contains-append_left}
use Rattle.rc_model.specs.Names.{Has, Holds}
use Rattle.rc_model.proofs.SetMembers.{has_or_lacks, has_within}
use Rattle.rc_model.specs.Graph.{Needs, UpFrom, IsClosed}
use Rattle.rc_graph.proofs.Paths.{closed_has_up, up_reaches, reaches_one}
use Rattle.rc_model.proofs.Counting.{no_more_left, fewer_left}
use Rattle.rc_model.proofs.Members.{none_contained}
use Rattle.rc_compile.specs.Walking.{Meets}

-- a new id costs what it leaves
pub new_costs : (old new : List Bool) (id left more : ℕ) → length new ≡ length old
    → Holds new (λ s. Has old s ⊎ (s ≡ id)) → (Has old id → ⊥) → more ≡ left + 1
    → count_by not new + more ≤ count_by not old + left
new_costs old new id left more bound members fresh long =
    let less : count_by not new < count_by not old =
    fewer_left old new id bound (λ s h. (members s).1 (inl h)) ((members id).1 (inr refl)) fresh in
    omega arith

-- an id that was seen costs nothing
pub known_costs : (old new : List Bool) (id left : ℕ) → length new ≡ length old
    → Holds new (λ s. Has old s ⊎ (s ≡ id)) → count_by not new + left ≤ count_by not old + left
known_costs old new id left bound members =
    let less : count_by not new ≤ count_by not old =
    no_more_left old new bound (λ s h. (members s).1 (inl h)) in
    omega arith

-- what meeting one id does
pub record Met (old : List Bool) (left : List ℕ) (id : ℕ) (new : List Bool)
    (more : List ℕ) : Type 0 where
  pub bound : length new ≡ length old
  pub members : Holds new (λ s. Has old s ⊎ (s ≡ id))
  pub todo : (s : ℕ) → Contains more s ↔ (Contains left s ⊎ ((s ≡ id) × (Has old id → ⊥)))
  pub cost : count_by not new + length more ≤ count_by not old + length left

pub meets_none : (seen : List Bool) (todo : List ℕ) → Meets seen todo [] seen todo
meets_none seen todo = record {
  bound = refl;
  members =
      λ s. (
        λ h. inl h,
        λ h. elim h [
          | inl had ↦ had
          | inr listed ↦ absurd (none_contained s listed)
        ],
      );
  todo =
      λ s. (
        λ h. inl h,
        λ h. elim h [
          | inl had ↦ had
          | inr listed ↦ absurd (none_contained s listed.0)
        ],
      );
  cost = omega arith;
}

-- one more of the list is met
pub meets_more : (old mid new : List Bool) (left half more list : List ℕ) (id : ℕ)
    → Meets old left list mid half → Met mid half id new more
    → Meets old left (list ++ id ∷ []) new more
meets_more old mid new left half more list id meets met = record {
  bound = met.bound ∙ meets.bound;
  members = λ s. (
    λ h. elim ((met.members s).0 h) [
      | inl in_mid ↦ elim ((meets.members s).0 in_mid) [
        | inl had ↦ inl had
        | inr listed ↦ inr (Contains-append_left list (id ∷ []) s listed)
      ]
      | inr same ↦ inr (subst (Contains (list ++ id ∷ [])) (sym same) (Contains-push list id))
    ],
    λ h. elim h [
      | inl had ↦ (met.members s).1 (inl ((meets.members s).1 (inl had)))
      | inr listed ↦ elim (Contains-push_cases list id s listed) [
        | inl earlier ↦ (met.members s).1 (inl ((meets.members s).1 (inr earlier)))
        | inr same ↦ (met.members s).1 (inr (sym same))
      ]
    ],
  );
  todo = λ s. (
    λ h. elim ((met.todo s).0 h) [
      | inl in_half ↦ elim ((meets.todo s).0 in_half) [
        | inl had ↦ inl had
        | inr new_one ↦ inr (Contains-append_left list (id ∷ []) s new_one.0, new_one.1)
      ]
      | inr is ↦
          inr (
            subst (Contains (list ++ id ∷ [])) (sym is.0) (Contains-push list id),
            λ has. is.1 ((meets.members id).1 (inl (subst (Has old) is.0 has))),
          )
    ],
    λ h. elim h [
      | inl had ↦ (met.todo s).1 (inl ((meets.todo s).1 (inl had)))
      | inr new_one ↦ elim (Contains-push_cases list id s new_one.0) [
        | inl earlier ↦ (met.todo s).1 (inl ((meets.todo s).1 (inr (earlier, new_one.1))))
        | inr same ↦ elim (has_or_lacks mid id) [
          | inl has ↦ elim ((meets.members id).0 has) [
            | inl had ↦ absurd (new_one.1 (subst (Has old) same had))
            | inr listed ↦
                (met.todo s).1
                (inl ((meets.todo s).1 (inr (subst (Contains list) same listed, new_one.1))))
          ]
          | inr lacks ↦ (met.todo s).1 (inr (sym same, lacks))
        ]
      ]
    ],
  );
  cost = let first : count_by not mid + length half ≤ count_by not old + length left = meets.cost in
      let second : count_by not new + length more ≤ count_by not mid + length half = met.cost in
      omega arith;
}

-- a walk from a start: what it has seen is reached, and the list of each is seen too, unless it is
-- still to be followed
pub record IsWalk (lists : List (List ℕ)) (start : ℕ) (seen : List Bool)
    (left : List ℕ) : Type 0 where
  pub bound : length seen ≡ length lists
  pub begins : Has seen start
  pub sound : (s : ℕ) → Has seen s → UpFrom lists (λ x. x ≡ start) s
  pub met : (s : ℕ) → Contains left s → Has seen s
  pub done : (s t : ℕ) → Has seen s → Needs lists s t → Contains left s ⊎ Has seen t

pub walk_begins : (lists : List (List ℕ)) (start : ℕ) (seen : List Bool) (left : List ℕ)
    → length seen ≡ length lists → Holds seen (λ s. s ≡ start)
    → ((s : ℕ) → Contains left s ↔ (s ≡ start)) → IsWalk lists start seen left
walk_begins lists start seen left bound is todo = record {
  bound = bound;
  begins = (is start).1 refl;
  sound = λ s has. inl ((is s).0 has);
  met = λ s there. (is s).1 ((todo s).0 there);
  done = λ s t has need. inl ((todo s).1 ((is s).0 has));
}

-- one is followed
pub walk_follows : (lists : List (List ℕ)) (start at : ℕ) (old new : List Bool)
    (all left more list : List ℕ) → IsWalk lists start old all → all ≡ left ++ at ∷ []
    → ((t : ℕ) → Needs lists at t ↔ Contains list t) → Meets old left list new more
    → IsWalk lists start new more
walk_follows lists start at old new all left more list walk popped lists_at meets =
    let All : List ℕ → Type 0 = λ xs. IsWalk lists start old xs in
    let before : IsWalk lists start old (left ++ at ∷ []) = subst All popped walk in
    record {
      bound = meets.bound ∙ before.bound;
      begins = (meets.members start).1 (inl before.begins);
      sound = λ s has. elim ((meets.members s).0 has) [
        | inl had ↦ before.sound s had
        | inr listed ↦
            up_reaches lists (λ x. x ≡ start) at s
            (before.sound at (before.met at (Contains-push left at)))
            (reaches_one lists at s ((lists_at s).1 listed))
      ];
      met = λ s there. elim ((meets.todo s).0 there) [
        | inl was ↦
            (meets.members s).1 (inl (before.met s (Contains-append_left left (at ∷ []) s was)))
        | inr new_one ↦ (meets.members s).1 (inr new_one.0)
      ];
      done = λ s t has need. elim (has_or_lacks old s) [
        | inl had ↦ elim (before.done s t had need) [
          | inl waits ↦ elim (Contains-push_cases left at s waits) [
            | inl still ↦ inl ((meets.todo s).1 (inl still))
            | inr now ↦
                inr ((meets.members t).1
                (inr ((lists_at t).0 (subst (λ x. Needs lists x t) (sym now) need))))
          ]
          | inr in_old ↦ inr ((meets.members t).1 (inl in_old))
        ]
        | inr lacked ↦ elim ((meets.members s).0 has) [
          | inl had ↦ absurd (lacked had)
          | inr listed ↦ inl ((meets.todo s).1 (inr (listed, lacked)))
        ]
      ];
    }

-- once nothing is left to follow, what was seen is all that is reached
pub walk_ends : (lists : List (List ℕ)) (start : ℕ) (seen : List Bool) (left : List ℕ)
    → IsWalk lists start seen left → left ≡ [] → Holds seen (UpFrom lists (λ x. x ≡ start))
walk_ends lists start seen left walk none s =
    let closed : IsClosed lists (Has seen) = λ a b has need. elim (walk.done a b has need) [
      | inl waits ↦ let empty : Contains [] a = subst (λ xs. Contains xs a) none waits in
          absurd (none_contained a empty)
      | inr there ↦ there
    ] in (
      walk.sound s,
      λ up. closed_has_up lists (Has seen) (λ x. x ≡ start) closed
          (λ x same. subst (Has seen) (sym same) walk.begins) s up,
    )

-- what is to be followed is one of the ids
pub followed_within : (lists : List (List ℕ)) (start at : ℕ) (seen : List Bool) (all left : List ℕ)
    → IsWalk lists start seen all → all ≡ left ++ at ∷ [] → at < length lists
followed_within lists start at seen all left walk popped =
    let there : Contains all at =
    subst (λ xs. Contains xs at) (sym popped) (Contains-push left at) in
    let low : at < length seen = has_within seen at (walk.met at there) in
    omega (arith, walk.bound)
