-- Between two tables there is an edit, and between two states an entry.
use Rattle.std.proofs.Common.{◌≡◌, ◌≢◌, ◌∙◌, ◌↔◌, ℕ, inl, inr, Bool, true, false, cond, List, []}
use Rattle.std.proofs.Common.{◌∷◌, length, Contains, Option, None, Some, refl, ap, sym, subst}
use Rattle.std.proofs.lemmas.Bool.{cases_Bool}
use Rattle.std.proofs.lemmas.List.Kept.{AllPairs-cons}
use Rattle.std.proofs.lemmas.Slice.Eq.{bytes_eq-Decides}
use Rattle.std.specs.Str.{bytes_eq}
use Rattle.rc_model.specs.Names.{Has, IsBefore, IsInByteOrder}
use Rattle.rc_model.proofs.ByteOrder.{same_or_other, order_tail, head_before}
use Rattle.rc_model.proofs.Exact.{value_or_not}
use Rattle.rc_model.proofs.Members.{contains_first, contains_later, contains_cases, none_contained}
use Rattle.rc_model.proofs.SetMembers.{has_or_lacks, has_within}
use Rattle.rc_model.specs.Database.{Bundles, names_of, value_of, IsTable}
use Rattle.rc_db.proofs.Values.{value_of-absent}
use Rattle.rc_db.proofs.Words.{value_of-named}
use Rattle.rc_model.specs.Line.{Alteration, IsAlteration, IsEdit, names_altered, State, Entry}
use Rattle.rc_model.specs.Line.{IsEntry, IsGained, Lists}
use Rattle.rc_model.proofs.Turning.{named_in}
use Rattle.rc_session.proofs.Deciding.{both, not, member_decided, ids_of}
use Rattle.rc_session.proofs.TablesExist.{all_from, put_in}

-- where neither has a value
none_here : (b : Bool) (set : List Bool) (value : Option (List Bool))
    → cond b (Some set) value ≡ None → (b ≡ false) × (value ≡ None)
none_here true set value is = let bad : Some set ≡ None = is in cc
none_here false set value is = (refl, is)

other_name : (table : Bundles) (name q : List ℕ) → Contains (names_of table) name
    → value_of table q ≡ None → bytes_eq q name ≡ false
other_name table name q there none = elim (cases_Bool (bytes_eq q name)) [
  | inl is ↦
      let value = value_of-named table name there in
      let bad : None ≡ Some value.0 =
      sym none ∙ ap (value_of table) ((bytes_eq-Decides q name).0 is) ∙ value.1 in
      cc
  | inr differs ↦ differs
]

-- a table in byte order that has each name of two others
abbrev Covers : Bundles → Bundles → Bundles → Type 0
Covers old new all = IsInByteOrder (names_of all)
    × ((q : List ℕ) → value_of all q ≡ None → (value_of old q ≡ None) × (value_of new q ≡ None))

joined : (old new : Bundles) → IsInByteOrder (names_of old) → (all : Bundles) × Covers old new all
joined old [] order = (old, (order, λ q none. (none, refl)))
joined old (bundle ∷ rest) order = elim (member_decided (names_of old) bundle.0 same_or_other) [
  | inl there ↦
      let more = joined old rest order in (
        more.0,
        (
          more.1.0,
          λ q none.
              let neither = more.1.1 q none in (
                neither.0,
                ap (λ (b : Bool). cond b (Some bundle.1) (value_of rest q))
                    (other_name old bundle.0 q there neither.0) ∙ neither.1,
              ),
        ),
      )
  | inr fresh ↦
      let wider = put_in old bundle.0 bundle.1 order fresh in
      let more = joined wider.0 rest wider.1.order in (
        more.0,
        (
          more.1.0,
          λ q none.
              let neither = more.1.1 q none in
              let here = none_here (bytes_eq q bundle.0) bundle.1 (value_of old q)
              (sym (wider.1.now q) ∙ neither.0) in (
                here.1,
                ap (λ (b : Bool). cond b (Some bundle.1) (value_of rest q)) here.0
                    ∙ neither.1,
              ),
        ),
      )
]

alteration_at : Bundles → Bundles → List ℕ → Alteration
alteration_at old new name =
    record { name = name; before = value_of old name; after = value_of new name }

is_alteration : (old new : Bundles) (name : List ℕ) → value_of old name ≢ value_of new name
    → IsAlteration old new (alteration_at old new name)
unfolding alteration_at
is_alteration old new name differs = record { before = refl; after = refl; differs = differs }

its_name : (old new : Bundles) (name : List ℕ) → (alteration_at old new name).name ≡ name
unfolding alteration_at
its_name old new name = refl

one_alteration : (old new : Bundles) (name : List ℕ) (a : Alteration) → name ≡ a.name
    → IsAlteration old new a → alteration_at old new name ≡ a
unfolding alteration_at
one_alteration old new name a same is =
    ap (alteration_at old new) same
    ∙ ap (λ (b : Option (List Bool)). record {
      name = a.name;
      before = b;
      after = value_of new a.name;
    }) is.before
    ∙ ap (λ (c : Option (List Bool)). record { name = a.name; before = a.before; after = c })
    is.after

-- the alterations of some names
record IsEditOf (old new : Bundles) (names : List (List ℕ)) (edit : List Alteration) : Type 0 where
  order : IsInByteOrder (names_altered edit)
  same : (a : Alteration) → Contains edit a ↔ (Contains names a.name × IsAlteration old new a)

module _ (old new : Bundles) where
  passed : (name : List ℕ) (rest : List (List ℕ)) (edit : List Alteration)
      → value_of old name ≡ value_of new name → IsEditOf old new rest edit
      → IsEditOf old new (name ∷ rest) edit
  passed name rest edit same more = record {
    order = more.order;
    same = λ a. (
      λ there. let is = (more.same a).0 there in (contains_later name rest a.name is.0, is.1),
      λ is. elim (contains_cases name rest a.name is.0) [
        | inl here ↦
            absurd
            (is.1.differs
            (sym is.1.before ∙ subst (λ (n : List ℕ). value_of old n ≡ value_of new n) here same
            ∙ is.1.after))
        | inr later ↦ (more.same a).1 (later, is.1)
      ],
    );
  }

  altered : (name : List ℕ) (rest : List (List ℕ)) (edit : List Alteration)
      → IsInByteOrder (name ∷ rest) → value_of old name ≢ value_of new name
      → IsEditOf old new rest edit
      → IsEditOf old new (name ∷ rest) (alteration_at old new name ∷ edit)
  altered name rest edit order differs more = record {
    order =
        subst (λ (n : List ℕ). IsInByteOrder (n ∷ names_altered edit)) (sym (its_name old new name))
        (AllPairs-cons IsBefore name (names_altered edit)
        (all_from (IsBefore name) (names_altered edit) (λ other there.
        let found = named_in edit other there in
        head_before name rest order other
        (subst (Contains rest) found.2 ((more.same found.0).0 found.1).0))) more.order);
    same = λ a. (
      λ there. elim (contains_cases (alteration_at old new name) edit a there) [
        | inl here ↦
            subst (λ (x : Alteration). Contains (name ∷ rest) x.name × IsAlteration old new x)
            here (
              subst (Contains (name ∷ rest)) (sym (its_name old new name))
                  (contains_first name rest),
              is_alteration old new name differs,
            )
        | inr later ↦ let is = (more.same a).0 later in (contains_later name rest a.name is.0, is.1)
      ],
      λ is. elim (contains_cases name rest a.name is.0) [
        | inl here ↦
            subst (Contains (alteration_at old new name ∷ edit))
            (one_alteration old new name a here is.1)
            (contains_first (alteration_at old new name) edit)
        | inr later ↦
            contains_later (alteration_at old new name) edit a ((more.same a).1 (later, is.1))
      ],
    );
  }

  edit_over : (names : List (List ℕ)) → IsInByteOrder names
      → (edit : List Alteration) × IsEditOf old new names edit
  edit_over [] order = (
    [],
    record {
      order = order;
      same =
          λ a. (
            λ there. absurd (none_contained a there),
            λ is. absurd (none_contained a.name is.0),
          );
    },
  )
  edit_over (name ∷ rest) order =
      let more = edit_over rest (order_tail name rest order) in
      elim (value_or_not (value_of old name) (value_of new name)) [
        | inl same ↦ (more.0, passed name rest more.0 same more.1)
        | inr differs ↦
            (alteration_at old new name ∷ more.0, altered name rest more.0 order differs more.1)
      ]

  named : (all : Bundles) → Covers old new all → (a : Alteration) → IsAlteration old new a
      → Contains (names_of all) a.name
  named all covers a is = elim (member_decided (names_of all) a.name same_or_other) [
    | inl there ↦ there
    | inr absent ↦ let neither = covers.1 a.name (value_of-absent all a.name absent) in
        absurd (is.differs (sym is.before ∙ neither.0 ∙ sym neither.1 ∙ is.after))
  ]

  -- the edit from one table to another
  pub edit_of : IsInByteOrder (names_of old) → (edit : List Alteration) × IsEdit old new edit
  edit_of order =
      let all = joined old new order in
      let made = edit_over (names_of all.0) all.1.0 in (
        made.0,
        record {
          order = made.1.order;
          same =
              λ a. (
                λ there. ((made.1.same a).0 there).1,
                λ is. (made.1.same a).1 (named all.0 all.1 a is, is),
              );
        },
      )

-- the services that one set has and the other lacks
pub gained : (from to : List Bool) → (ids : List ℕ) × Lists (IsGained from to) ids
gained from to = ids_of (IsGained from to) (length to)
    (λ s low. both (Has to s) (Has from s → ⊥) (has_or_lacks to s)
    (not (Has from s) (has_or_lacks from s)))
    (λ s is. has_within to s is.0)

-- the entry from one state to another
pub entry_of : (from to : State) → IsTable from.table → (entry : Entry) × IsEntry from to entry
entry_of from to is_table =
    let up = gained from.live to.live in
    let down = gained to.live from.live in
    let edit = edit_of from.table to.table is_table.order in (
      record { raised = up.0; lowered = down.0; edit = edit.0 },
      record { raised = up.1; lowered = down.1; edit = edit.1 },
    )
