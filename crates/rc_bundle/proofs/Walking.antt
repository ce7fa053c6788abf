-- A walk over two tables side by side.
use Rattle.std.proofs.Common.{◌≡◌, ℕ, ◌+◌, ◌-◌, ◌<◌, ◌≤◌, ◌⊎◌, ◌↔◌, inl, inr, Bool, List, [], ◌∷◌}
use Rattle.std.proofs.Common.{◌++◌, length, get_or, Contains, Option, Some, None, arith, refl, sym}
use Rattle.std.proofs.Common.{ap, subst, ◌∙◌}
use Rattle.std.proofs.lemmas.Bool.{cases_lt, cases_eq}
use Rattle.std.proofs.lemmas.List.{map-append, get_or-map, length-map}
use Rattle.std.proofs.lemmas.List.Elements.{Contains-push, Contains-push_cases}
use Rattle.std.proofs.lemmas.List.Elements.{Contains-append_left, Contains-get_or}
use Rattle.std.proofs.lemmas.List.Quantifiers.{all_pairs_push}
use Rattle.std.proofs.lemmas.Option.{slice_get-get_or, slice_get_within}
use Rattle.std.specs.List.{slice_get}
use Rattle.rc_model.specs.Names.{IsBefore, IsInByteOrder}
use Rattle.rc_model.specs.Database.{Bundles, names_of, value_of, IsTable}
use Rattle.rc_model.specs.Line.{Alteration, names_altered, IsAlteration, IsEdit}
use Rattle.rc_bundle.specs.Walk.{IsBeforeAt, IsNextName, IsNoted, next_place}
use Rattle.rc_model.proofs.ByteOrder.{not_before_itself}
use Rattle.rc_db.proofs.Values.{value_of-some}
use Rattle.rc_model.proofs.Texts.{before_trans}
use Rattle.rc_bundle.proofs.Places.{at_order, value_at, no_value}

-- the name stands before a place of the table
abbrev pub IsPassed : Bundles → ℕ → List ℕ → Type 0
IsPassed t i name = (k : ℕ) × (set : List Bool) × (k < i) × (slice_get t k ≡ Some (name, set))

-- each name before the one place stands before each name from the other place on
abbrev pub AreAhead : Bundles → ℕ → Bundles → ℕ → Type 0
AreAhead t i u j = (k l : ℕ) (a b : List ℕ × List Bool) → k < i → j ≤ l → slice_get t k ≡ Some a
    → slice_get u l ≡ Some b → IsBefore a.0 b.0

-- the alterations of those names of which this holds
pub record IsEditOf (old new : Bundles) (P : List ℕ → Type 0) (edit : List Alteration) : Type
    0 where
  pub order : IsInByteOrder (names_altered edit)
  pub same : (a : Alteration) → Contains edit a ↔ (IsAlteration old new a × P a.name)

-- the walk has come to these places, and the alterations of the names before them are noted
pub record IsWalked (old : Bundles) (i : ℕ) (new : Bundles) (j : ℕ) (edit : List Alteration) : Type
    0 where
  pub in_old : i ≤ length old
  pub in_new : j ≤ length new
  pub old_ahead : AreAhead old i new j
  pub new_ahead : AreAhead new j old i
  pub noted : IsEditOf old new (λ name. IsPassed old i name ⊎ IsPassed new j name) edit

-- a name that stands before a place stands before all that follows
before_rest : (t : Bundles) → IsInByteOrder (names_of t)
    → (name : List ℕ) (j l : ℕ) (b : List ℕ × List Bool) → IsBeforeAt name t j → j ≤ l
    → slice_get t l ≡ Some b → IsBefore name b.0
before_rest t order name j l b before low at = elim (cases_eq j l) [
  | inl here ↦ before b.0 b.1 (subst (λ x. slice_get t x ≡ Some (b.0, b.1)) (sym here) at)
  | inr apart ↦
      let within : l < length t = slice_get_within t l b at in
      let first : j < l = omega (arith, apart) in
      let between : slice_get t j ≡ Some (get_or t j b) = slice_get-get_or t j b (omega arith) in
      before_trans name (get_or t j b).0 b.0 (before (get_or t j b).0 (get_or t j b).1 between)
      (at_order t order j l (get_or t j b) b first between at)
]

-- the name at a place stands before all that follow
after_it : (t : Bundles) → IsInByteOrder (names_of t)
    → (i l : ℕ) (name : List ℕ) (set : List Bool) (b : List ℕ × List Bool)
    → slice_get t i ≡ Some (name, set) → i + 1 ≤ l → slice_get t l ≡ Some b → IsBefore name b.0
after_it t order i l name set b here low at =
    at_order t order i l (name, set) b (omega arith) here at

-- one place on, one more name is passed
passed_more : (t : Bundles) (i : ℕ) (name : List ℕ) (set : List Bool)
    → slice_get t i ≡ Some (name, set) → (p : List ℕ)
    → IsPassed t (i + 1) p ↔ (IsPassed t i p ⊎ (p ≡ name))
passed_more t i name set here p = (
  λ (k, s, low, at). elim (cases_eq k i) [
    | inl same ↦
        let e : Some (p, s) ≡ Some (name, set) = sym at
        ∙ subst (λ x. slice_get t x ≡ Some (name, set)) (sym same) here in
        inr (let e2 : (p, s) ≡ (name, set) = cc in ap (λ (o : List ℕ × List Bool). o.0) e2)
    | inr apart ↦ inl (k, s, (let r : k < i = omega (arith, apart) in r), at)
  ],
  λ cases. elim cases [
    | inl (k, s, low, at) ↦ (k, s, omega arith, at)
    | inr e ↦ (i, set, omega arith, subst (λ x. slice_get t i ≡ Some (x, set)) (sym e) here)
  ],
)

-- one more alteration, whose name comes after all that were passed
one_noted : (old new : Bundles) (P Q : List ℕ → Type 0) (edit : List Alteration) (x : Alteration)
    → IsEditOf old new P edit → ((p : List ℕ) → P p → IsBefore p x.name)
    → ((p : List ℕ) → Q p ↔ (P p ⊎ (p ≡ x.name))) → IsAlteration old new x
    → IsEditOf old new Q (edit ++ x ∷ [])
one_noted old new P Q edit x noted ahead wider alters = record {
  order =
      subst IsInByteOrder (sym (map-append (λ (a : Alteration). a.name) edit (x ∷ [])))
      (all_pairs_push IsBefore (names_altered edit) x.name noted.order (λ k d low.
      let within : k < length edit = omega (arith, length-map edit (λ (a : Alteration). a.name)) in
      let there : IsBefore (get_or edit k x).name x.name = ahead (get_or edit k x).name
      ((noted.same (get_or edit k x)).0 (Contains-get_or edit k x within)).1 in
      subst (λ p. IsBefore p x.name)
      (sym (get_or-map (λ (a : Alteration). a.name) edit k x d within)) there));
  same = λ a. (
    λ there. elim (Contains-push_cases edit x a there) [
      | inl was ↦ let h = (noted.same a).0 was in (h.0, (wider a.name).1 (inl h.1))
      | inr e ↦
          subst (λ y. IsAlteration old new y × Q y.name) e (alters, (wider x.name).1 (inr refl))
    ],
    λ h. elim ((wider a.name).0 h.1) [
      | inl passed ↦ Contains-append_left edit (x ∷ []) a ((noted.same a).1 (h.0, passed))
      | inr name_is ↦
          let before_is : a.before ≡ x.before =
          sym h.0.before ∙ ap (value_of old) name_is ∙ alters.before in
          let after_is : a.after ≡ x.after =
          sym h.0.after ∙ ap (value_of new) name_is ∙ alters.after in
          let e : a ≡ x =
          (λ n. record { name = name_is n; before = before_is n; after = after_is n }) in
          subst (Contains (edit ++ x ∷ [])) (sym e) (Contains-push edit x)
    ],
  );
}

-- one more name, after all that were passed
one_more : (old new : Bundles) (P Q : List ℕ → Type 0) (edit more : List Alteration) (name : List ℕ)
    (before after : Option (List Bool))
    → IsEditOf old new P edit → ((p : List ℕ) → P p → IsBefore p name)
    → ((p : List ℕ) → Q p ↔ (P p ⊎ (p ≡ name)))
    → value_of old name ≡ before → value_of new name ≡ after → IsNoted edit more name before after
    → IsEditOf old new Q more
one_more old new P Q edit more name before after noted ahead wider before_is after_is step =
    elim step [
      | inl (alike, e) ↦ subst (IsEditOf old new Q) (sym e) (record {
        order = noted.order;
        same = λ a. (
          λ there. let h = (noted.same a).0 there in (h.0, (wider a.name).1 (inl h.1)),
          λ h. elim ((wider a.name).0 h.1) [
            | inl passed ↦ (noted.same a).1 (h.0, passed)
            | inr name_is ↦
                absurd (h.0.differs (sym h.0.before ∙ ap (value_of old) name_is ∙ before_is ∙ alike
                ∙ sym after_is ∙ sym (ap (value_of new) name_is) ∙ h.0.after))
          ],
        );
      })
      | inr (differ, e) ↦
          subst (IsEditOf old new Q) (sym e)
          (one_noted old new P Q edit (record { name = name; before = before; after = after }) noted
          ahead wider (record { before = before_is; after = after_is; differs = differ }))
    ]

module _ (old new : Bundles) (i j : ℕ) (edit : List Alteration)
    (in_order_old : IsInByteOrder (names_of old)) (in_order_new : IsInByteOrder (names_of new))
    (walked : IsWalked old i new j edit) where
  -- a name that stands at the one place, and before the other, is not in the other table
  next_is_new : (name : List ℕ) (before : List Bool) → slice_get old i ≡ Some (name, before)
      → IsBeforeAt name new j → value_of new name ≡ None
  next_is_new name before here first = no_value new name (λ l set at. elim (cases_lt l j) [
    | inl low ↦
        not_before_itself name
        (walked.new_ahead l i (name, set) (name, before) low (omega arith) at here)
    | inr high ↦
        not_before_itself name (before_rest new in_order_new name j l (name, set) first high at)
  ])

  next_is_old : (name : List ℕ) (after : List Bool) → slice_get new j ≡ Some (name, after)
      → IsBeforeAt name old i → value_of old name ≡ None
  next_is_old name after here first = no_value old name (λ l set at. elim (cases_lt l i) [
    | inl low ↦
        not_before_itself name
        (walked.old_ahead l j (name, set) (name, after) low (omega arith) at here)
    | inr high ↦
        not_before_itself name (before_rest old in_order_old name i l (name, set) first high at)
  ])

  -- the next name has its sets
  next_values : (name : List ℕ) (before after : Option (List Bool))
      → IsNextName old i new j name before after
      → (value_of old name ≡ before) × (value_of new name ≡ after)
  next_values name (Some before) (Some after) next = (
    value_at old in_order_old i name before next.0,
    value_at new in_order_new j name after next.1,
  )
  next_values name (Some before) None next =
      (value_at old in_order_old i name before next.0, next_is_new name before next.0 next.1)
  next_values name None (Some after) next =
      (next_is_old name after next.0 next.1, value_at new in_order_new j name after next.0)
  next_values name None None next = absurd next

  passed_before_old : (name : List ℕ) (before : List Bool) → slice_get old i ≡ Some (name, before)
      → (p : List ℕ) → IsPassed old i p ⊎ IsPassed new j p → IsBefore p name
  passed_before_old name before here p passed = elim passed [
    | inl (k, set, low, at) ↦ at_order old in_order_old k i (p, set) (name, before) low at here
    | inr (k, set, low, at) ↦ walked.new_ahead k i (p, set) (name, before) low (omega arith) at here
  ]

  passed_before_new : (name : List ℕ) (after : List Bool) → slice_get new j ≡ Some (name, after)
      → (p : List ℕ) → IsPassed old i p ⊎ IsPassed new j p → IsBefore p name
  passed_before_new name after here p passed = elim passed [
    | inl (k, set, low, at) ↦ walked.old_ahead k j (p, set) (name, after) low (omega arith) at here
    | inr (k, set, low, at) ↦ at_order new in_order_new k j (p, set) (name, after) low at here
  ]

  -- what was passed stands before the next name
  passed_before : (name : List ℕ) (before after : Option (List Bool))
      → IsNextName old i new j name before after → (p : List ℕ)
      → IsPassed old i p ⊎ IsPassed new j p → IsBefore p name
  passed_before name (Some before) (Some after) next = passed_before_old name before next.0
  passed_before name (Some before) None next = passed_before_old name before next.0
  passed_before name None (Some after) next = passed_before_new name after next.0
  passed_before name None None next = absurd next

-- the next name is passed beside those that were
passed_wider : (old : Bundles) (i : ℕ) (new : Bundles) (j : ℕ) (name : List ℕ)
    (before after : Option (List Bool)) → IsNextName old i new j name before after
    → (p : List ℕ) → (IsPassed old (next_place i before) p ⊎ IsPassed new (next_place j after) p)
    ↔ ((IsPassed old i p ⊎ IsPassed new j p) ⊎ (p ≡ name))
passed_wider old i new j name (Some before) (Some after) next p =
    let in_old = passed_more old i name before next.0 p in
    let in_new = passed_more new j name after next.1 p in (
      λ passed. elim passed [
        | inl h ↦ elim (in_old.0 h) [ inl was ↦ inl (inl was) | inr e ↦ inr e ]
        | inr h ↦ elim (in_new.0 h) [ inl was ↦ inl (inr was) | inr e ↦ inr e ]
      ],
      λ passed. elim passed [
        | inl was ↦ elim was [ inl h ↦ inl (in_old.1 (inl h)) | inr h ↦ inr (in_new.1 (inl h)) ]
        | inr e ↦ inl (in_old.1 (inr e))
      ],
    )
passed_wider old i new j name (Some before) None next p =
    let in_old = passed_more old i name before next.0 p in (
      λ passed. elim passed [
        | inl h ↦ elim (in_old.0 h) [ inl was ↦ inl (inl was) | inr e ↦ inr e ]
        | inr h ↦ inl (inr h)
      ],
      λ passed. elim passed [
        | inl was ↦ elim was [ inl h ↦ inl (in_old.1 (inl h)) | inr h ↦ inr h ]
        | inr e ↦ inl (in_old.1 (inr e))
      ],
    )
passed_wider old i new j name None (Some after) next p =
    let in_new = passed_more new j name after next.0 p in (
      λ passed. elim passed [
        | inl h ↦ inl (inl h)
        | inr h ↦ elim (in_new.0 h) [ inl was ↦ inl (inr was) | inr e ↦ inr e ]
      ],
      λ passed. elim passed [
        | inl was ↦ elim was [ inl h ↦ inl h | inr h ↦ inr (in_new.1 (inl h)) ]
        | inr e ↦ inr (in_new.1 (inr e))
      ],
    )
passed_wider old i new j name None None next p = absurd next

-- one place on in the one table, where the name there stands before all from the other place on
ahead_more : (t : Bundles) (i : ℕ) (u : Bundles) (j to : ℕ) (name : List ℕ) (set : List Bool)
    → AreAhead t i u j → slice_get t i ≡ Some (name, set) → j ≤ to
    → ((l : ℕ) (b : List ℕ × List Bool) → to ≤ l → slice_get u l ≡ Some b → IsBefore name b.0)
    → AreAhead t (i + 1) u to
ahead_more t i u j to name set ahead here on first k l a b low high at_k at_l =
    elim (cases_eq k i) [
      | inl same ↦
          let e : Some a ≡ Some (name, set) =
          sym at_k ∙ subst (λ x. slice_get t x ≡ Some (name, set)) (sym same) here in
          let e2 : a ≡ (name, set) = cc in
          subst (λ (o : List ℕ × List Bool). IsBefore o.0 b.0) (sym e2) (first l b high at_l)
      | inr apart ↦ ahead k l a b (omega (arith, apart)) (omega arith) at_k at_l
    ]

ahead_less : (t : Bundles) (i : ℕ) (u : Bundles) (j to : ℕ) → AreAhead t i u j → j ≤ to
    → AreAhead t i u to
ahead_less t i u j to ahead on k l a b low high at_k at_l =
    ahead k l a b low (omega arith) at_k at_l

-- where a step leads, the names of either table are still ahead of the other's
module _ (old new : Bundles) (i j : ℕ) (in_order_old : IsInByteOrder (names_of old))
    (in_order_new : IsInByteOrder (names_of new)) (ahead : AreAhead old i new j)
    (name : List ℕ) where
  next_ahead : (before after : Option (List Bool)) → IsNextName old i new j name before after
      → AreAhead old (next_place i before) new (next_place j after)
  next_ahead (Some before) (Some after) next =
      ahead_more old i new j (j + 1) name before ahead next.0 (omega arith)
      (λ l b. after_it new in_order_new j l name after b next.1)
  next_ahead (Some before) None next =
      ahead_more old i new j j name before ahead next.0 (omega arith)
      (λ l b. before_rest new in_order_new name j l b next.1)
  next_ahead None (Some after) next = ahead_less old i new j (j + 1) ahead (omega arith)
  next_ahead None None next = absurd next

-- the next name is the same from the other side
next_turned : (old new : Bundles) (i j : ℕ) (name : List ℕ) (before after : Option (List Bool))
    → IsNextName old i new j name before after → IsNextName new j old i name after before
next_turned old new i j name (Some before) (Some after) next = (next.1, next.0)
next_turned old new i j name (Some before) None next = next
next_turned old new i j name None (Some after) next = next
next_turned old new i j name None None next = next

next_within : (old new : Bundles) (i j : ℕ) (name : List ℕ) (before after : Option (List Bool))
    → i ≤ length old → IsNextName old i new j name before after → next_place i before ≤ length old
next_within old new i j name (Some before) (Some after) low next =
    let within : i < length old = slice_get_within old i (name, before) next.0 in omega arith
next_within old new i j name (Some before) None low next =
    let within : i < length old = slice_get_within old i (name, before) next.0 in omega arith
next_within old new i j name None (Some after) low next = low
next_within old new i j name None None low next = low

-- the walk goes on by the next name
pub walked_on : (old new : Bundles) (i j : ℕ) (edit more : List Alteration) (name : List ℕ)
    (before after : Option (List Bool))
    → IsTable old → IsTable new → IsWalked old i new j edit
    → IsNextName old i new j name before after → IsNoted edit more name before after
    → IsWalked old (next_place i before) new (next_place j after) more
walked_on old new i j edit more name before after t u walked next noted =
    let turned = next_turned old new i j name before after next in
    let values = next_values old new i j edit t.order u.order walked name before after next in
    record {
      in_old = next_within old new i j name before after walked.in_old next;
      in_new = next_within new old j i name after before walked.in_new turned;
      old_ahead = next_ahead old new i j t.order u.order walked.old_ahead name before after next;
      new_ahead = next_ahead new old j i u.order t.order walked.new_ahead name after before turned;
      noted =
          one_more old new (λ p. IsPassed old i p ⊎ IsPassed new j p)
          (λ p. IsPassed old (next_place i before) p ⊎ IsPassed new (next_place j after) p) edit
          more name before after
          walked.noted
          (passed_before old new i j edit t.order u.order walked name before after next)
          (passed_wider old i new j name before after next) values.0 values.1 noted;
    }

-- the walk begins
pub walked_none : (old new : Bundles) → IsWalked old 0 new 0 []
walked_none old new = record {
  in_old = omega arith;
  in_new = omega arith;
  old_ahead = λ k l a b low high at_k at_l. absurd (omega arith);
  new_ahead = λ k l a b low high at_k at_l. absurd (omega arith);
  noted = record {
    order = λ i j d first within. absurd (omega arith);
    same =
        λ a. (
          λ (k, low, at). absurd (omega arith),
          λ h. elim h.1 [
            | inl p ↦ let low : p.0 < 0 = p.2 in absurd (omega arith)
            | inr p ↦ let low : p.0 < 0 = p.2 in absurd (omega arith)
          ],
        );
  };
}

-- a name with a set is passed at the end
passed_at_end : (t : Bundles) (i : ℕ) (name : List ℕ) (set : List Bool) → length t ≤ i
    → value_of t name ≡ Some set → IsPassed t i name
passed_at_end t i name set end value =
    let at = value_of-some t name set value in
    let within : at.0 < length t = slice_get_within t at.0 (name, set) at.1 in
    (at.0, set, omega arith, at.1)

-- at the end all alterations are noted
pub walked_all : (old new : Bundles) (i j : ℕ) (edit : List Alteration) → IsWalked old i new j edit
    → length old ≤ i → length new ≤ j → IsEdit old new edit
walked_all old new i j edit walked end_old end_new = record {
  order = walked.noted.order;
  same =
      λ a. (
        λ there. ((walked.noted.same a).0 there).0,
        λ alters. (walked.noted.same a).1 (alters, by a alters a.before a.after refl refl),
      );
}
  where
    by : (a : Alteration) → IsAlteration old new a → (before after : Option (List Bool))
        → a.before ≡ before → a.after ≡ after → IsPassed old i a.name ⊎ IsPassed new j a.name
    by a alters (Some before) after b e =
        inl (passed_at_end old i a.name before end_old (alters.before ∙ b))
    by a alters None (Some after) b e =
        inr (passed_at_end new j a.name after end_new (alters.after ∙ e))
    by a alters None None b e = absurd (alters.differs (b ∙ sym e))

-- each step makes what is left less
pub less_left : (old new : Bundles) (i j : ℕ) (name : List ℕ) (before after : Option (List Bool))
    → IsNextName old i new j name before after
    → (length old - next_place i before) + (length new - next_place j after) < (length old - i)
    + (length new - j)
less_left old new i j name (Some before) (Some after) next =
    let in_old : i < length old = slice_get_within old i (name, before) next.0 in
    let in_new : j < length new = slice_get_within new j (name, after) next.1 in omega arith
less_left old new i j name (Some before) None next =
    let in_old : i < length old = slice_get_within old i (name, before) next.0 in omega arith
less_left old new i j name None (Some after) next =
    let in_new : j < length new = slice_get_within new j (name, after) next.0 in omega arith
less_left old new i j name None None next = absurd next
