-- An entry leads from a state to only one state, and an edit to only one table.
use Rattle.std.proofs.Common.{◌≡◌, ◌⊎◌, ◌∙◌, ℕ, suc, Bool, true, false, List, [], ◌∷◌, length}
use Rattle.std.proofs.Common.{Option, Some, None, unwrap_or, inl, inr, refl, ap, sym, arith}
use Rattle.rc_model.specs.Names.{Has}
use Rattle.rc_model.proofs.SetMembers.{has_or_lacks}
use Rattle.rc_model.specs.Database.{Bundles, IsTable, value_of}
use Rattle.rc_model.proofs.Tables.{same_table}
use Rattle.rc_model.specs.Line.{Alteration, IsEdit, State, Entry, IsEntry}
use Rattle.rc_model.proofs.SetLemmas.{same_set}

-- sets are equal or not
pub equal_or_not : (a b : List Bool) → (a ≡ b) ⊎ (a ≡ b → ⊥)
equal_or_not [] [] = inl refl
equal_or_not [] (y ∷ b) =
    inr (λ same. (let lengths : 0 ≡ suc (length b) = ap length same in omega (arith, lengths)))
equal_or_not (x ∷ a) [] =
    inr (λ same. (let lengths : suc (length a) ≡ 0 = ap length same in omega (arith, lengths)))
equal_or_not (true ∷ a) (true ∷ b) = elim (equal_or_not a b) [
  | inl same ↦ inl (ap (λ rest. true ∷ rest) same)
  | inr differ ↦ inr (λ same. differ cc)
]
equal_or_not (false ∷ a) (false ∷ b) = elim (equal_or_not a b) [
  | inl same ↦ inl (ap (λ rest. false ∷ rest) same)
  | inr differ ↦ inr (λ same. differ cc)
]
equal_or_not (true ∷ a) (false ∷ b) = inr (λ same. cc)
equal_or_not (false ∷ a) (true ∷ b) = inr (λ same. cc)

-- the values of a name are equal or not
pub value_or_not : (a b : Option (List Bool)) → (a ≡ b) ⊎ (a ≡ b → ⊥)
value_or_not None None = inl refl
value_or_not None (Some y) = inr (λ same. cc)
value_or_not (Some x) None = inr (λ same. cc)
value_or_not (Some x) (Some y) = elim (equal_or_not x y) [
  | inl same ↦ inl (ap (λ set. Some set) same)
  | inr differ ↦ inr (λ same. differ (ap (λ o. unwrap_or o []) same))
]

-- an edit leads to one table
pub one_table : (a b c : Bundles) (edit : List Alteration) → IsEdit a b edit → IsEdit a c edit
    → IsTable b → IsTable c → b ≡ c
one_table a b c edit eb ec tb tc =
    same_table b c tb tc (λ name. elim (value_or_not (value_of a name) (value_of b name)) [
      | inr differ ↦
          sym
          (((ec.same (record { name = name; before = value_of a name; after = value_of b name })).0
          ((eb.same (record { name = name; before = value_of a name; after = value_of b name })).1
          (record { before = refl; after = refl; differs = differ }))).after)
      | inl same ↦ elim (value_or_not (value_of a name) (value_of c name)) [
        | inl alike ↦ sym same ∙ alike
        | inr differ ↦
            ((eb.same (record { name = name; before = value_of a name; after = value_of c name })).0
            ((ec.same (record { name = name; before = value_of a name; after = value_of c name })).1
            (record { before = refl; after = refl; differs = differ }))).after
      ]
    ])

-- what one of the states has, the other has
within : (a b c : State) (entry : Entry) → IsEntry a b entry → IsEntry a c entry → (s : ℕ)
    → Has b.live s → Has c.live s
within a b c entry eb ec s in_b = elim (has_or_lacks c.live s) [
  | inl in_c ↦ in_c
  | inr out_c ↦ elim (has_or_lacks a.live s) [
    | inl in_a ↦ absurd (((eb.lowered.same s).0 ((ec.lowered.same s).1 (in_a, out_c))).1 in_b)
    | inr out_a ↦ ((ec.raised.same s).0 ((eb.raised.same s).1 (in_b, out_a))).0
  ]
]

-- an entry leads from a state to one state
pub one_state : (a b c : State) (entry : Entry) → IsEntry a b entry → IsEntry a c entry
    → IsTable b.table → IsTable c.table → length b.live ≡ length c.live → b ≡ c
one_state a b c entry eb ec tb tc bound =
    ap (λ live. record { live = live; table = b.table })
    (same_set b.live c.live bound (λ s. (within a b c entry eb ec s, within a c b entry ec eb s)))
    ∙ ap (λ table. record { live = c.live; table = table })
    (one_table a.table b.table c.table entry.edit eb.edit ec.edit tb tc)
