-- The loop that turns the lists of needs round, service by service.
use Rattle.std.proofs.Common.{◌≡◌, ◌∙◌, ℕ, ◌+◌, ◌<◌, ◌≤◌, ◌⊎◌, ◌↔◌, List, [], ◌∷◌, ◌++◌, Contains}
use Rattle.std.proofs.Common.{inl, inr, arith, sym, subst, slice_index_or, length, replicate, refl}
use Rattle.std.proofs.lemmas.Bool.{cases_lt, cases_order}
use Rattle.std.proofs.lemmas.List.{length-replicate, get_or-replicate, get_or_past}
use Rattle.std.proofs.lemmas.List.Elements.{Contains-append_left, Contains-push}
use Rattle.std.proofs.lemmas.List.Elements.{Contains-push_cases}
use Rattle.smallvec.specs.SmallVec.{SmallVec}
use Rattle.rc_model.specs.Graph.{Needs, AreNeeds}
use Rattle.rc_model.proofs.Members.{none_contained}
use Rattle.rc_graph.specs.Needs.{IsReverse}
use Rattle.rc_graph.specs.Rows.{rows}
use Rattle.rc_graph.proofs.RowLemmas.{length-rows, no_need}

-- the pairs of old lists, with the list's members each before a service
pub record HasAdded (old new : List (List ℕ)) (list : List ℕ) (service : ℕ) : Type 0 where
  pub bound : length new ≡ length old
  pub lists : AreNeeds new
  pub pairs : (t s : ℕ) → Needs new t s ↔ (Needs old t s ⊎ ((s ≡ service) × Contains list t))

-- none of them yet
pub none_added : (old : List (List ℕ)) (service : ℕ) → AreNeeds old → HasAdded old old [] service
none_added old service lists =
    record {
      bound = refl;
      lists = lists;
      pairs =
          λ t s. (inl, λ h. elim h [ inl old ↦ old | inr new ↦ absurd (none_contained t new.1) ]);
    }

-- one more of them
pub one_added : (old mid new : List (List ℕ)) (list : List ℕ) (service x : ℕ)
    → HasAdded old mid list service → length new ≡ length mid → AreNeeds new
    → ((t s : ℕ) → Needs new t s ↔ (Needs mid t s ⊎ ((t ≡ x) × (s ≡ service))))
    → HasAdded old new (list ++ x ∷ []) service
one_added old mid new list service x before same lists pairs =
    record {
      bound = omega (arith, before.bound);
      lists = lists;
      pairs = λ t s. (
        λ h. elim ((pairs t s).0 h) [
          | inl in_mid ↦ elim ((before.pairs t s).0 in_mid) [
            | inl in_old ↦ inl in_old
            | inr added ↦ inr (added.0, Contains-append_left list (x ∷ []) t added.1)
          ]
          | inr added ↦
              inr (added.1, subst (Contains (list ++ x ∷ [])) (sym added.0) (Contains-push list x))
        ],
        λ h. (pairs t s).1 (elim h [
          | inl in_old ↦ inl ((before.pairs t s).1 (inl in_old))
          | inr added ↦ elim (Contains-push_cases list x t added.1) [
            | inl earlier ↦ inl ((before.pairs t s).1 (inr (added.0, earlier)))
            | inr last ↦ inr (sym last, added.0)
          ]
        ]),
      );
    }

-- the pairs the other way round of the services below a bound
pub record ReversesBelow (needs needed_by : List (List ℕ)) (bound : ℕ) : Type 0 where
  pub few : length needed_by ≡ length needs
  pub lists : AreNeeds needed_by
  pub same : (s t : ℕ) → Needs needed_by t s ↔ ((s < bound) × Needs needs s t)

no_row : (n s : ℕ) → slice_index_or (replicate {A = List ℕ} n []) s [] ≡ []
no_row n s = elim (cases_lt s n) [
  | inl low ↦ get_or-replicate n s [] [] low
  | inr high ↦
      get_or_past (replicate n []) s []
      (let n_long : length (replicate {A = List ℕ} n []) ≡ n = length-replicate n [] in omega arith)
]

-- empty lists name no pair
pub are_needs_none : (n : ℕ) → n ≤ 4096 → AreNeeds (replicate n [])
are_needs_none n few =
    record {
      few = rw (length-replicate {A = List ℕ} n []) few;
      ascending = λ s. rw (no_row n s) (λ i j d low within. absurd (omega arith));
      known = λ s t needed. absurd (no_need n s t needed);
    }

-- empty lists, at first
pub none_reversed : (needs : List (List ℕ)) → AreNeeds needs
    → ReversesBelow needs (replicate (length needs) []) 0
none_reversed needs lists =
    record {
      few = length-replicate (length needs) [];
      lists = are_needs_none (length needs) lists.few;
      same = λ s t. (λ h. absurd (no_need (length needs) t s h), λ h. absurd (omega (arith, h.0)));
    }

-- the pairs of one more service
pub one_reversed : (needs mid new : List (List ℕ)) (s : ℕ) → ReversesBelow needs mid s
    → HasAdded mid new (slice_index_or needs s []) s → ReversesBelow needs new (s + 1)
one_reversed needs mid new s before added =
    record {
      few = omega (arith, before.few, added.bound);
      lists = added.lists;
      same = λ a t. (
        λ h. elim ((added.pairs t a).0 h) [
          | inl earlier ↦ let e = (before.same a t).0 earlier in (omega (arith, e.0), e.1)
          | inr now ↦ (omega (arith, now.0), rw now.0 now.1)
        ],
        λ h. (added.pairs t a).1 (elim (cases_order a s) [
          | inl same ↦ inr (same, rw same at (h.1))
          | inr (inl low) ↦ inl ((before.same a t).1 (low, h.1))
          | inr (inr high) ↦ absurd (omega (arith, h.0))
        ]),
      );
    }

-- all of them
pub all_reversed : (needs needed_by : List (List ℕ)) (n : ℕ) → length needs ≤ n
    → ReversesBelow needs needed_by n → IsReverse needs needed_by
all_reversed needs needed_by n high reversed =
    record {
      few = reversed.few;
      ascending = reversed.lists.ascending;
      same = λ s t. (
        λ h. ((reversed.same s t).0 h).1,
        λ h. (reversed.same s t).1 (
          elim (cases_lt s (length needs)) [
            | inl low ↦ omega arith
            | inr past ↦ absurd (none_contained t (rw (get_or_past needs s [] past) at h))
          ],
          h,
        ),
      );
    }

-- the same of the tables that the vectors hold, of which some were lent
pub added_lent : (mid lent new : List (SmallVec ℕ)) (row list : List ℕ) (service : ℕ) → lent ≡ mid
    → length new ≡ length lent → row ≡ list → AreNeeds (rows new)
    → ((t s : ℕ)
    → Needs (rows new) t s ↔ (Needs (rows lent) t s ⊎ ((s ≡ service) × Contains list t)))
    → HasAdded (rows mid) (rows new) row service
added_lent mid lent new row list service same_table bound same lists pairs =
    rw (same, ← same_table) (record {
      bound = length-rows new ∙ (bound ∙ sym (length-rows lent));
      lists = lists;
      pairs = pairs;
    })
