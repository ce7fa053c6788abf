-- An edit turned round, and the names that it alters.
use Rattle.std.proofs.Common.{◌≡◌, ℕ, zero, suc, ◌<◌, List, [], ◌∷◌, length, slice_index_or, inl}
use Rattle.std.proofs.Common.{Contains, refl, ap, sym, subst, arith, inr}
use Rattle.rc_model.specs.Names.{IsInByteOrder}
use Rattle.rc_model.specs.Database.{Bundles}
use Rattle.rc_model.specs.Line.{Alteration, IsAlteration, IsEdit, names_altered, alteration_back}
use Rattle.rc_model.specs.Line.{edit_back}
use Rattle.rc_model.proofs.Members.{contains_first, contains_later, contains_cases, none_contained}

altered_back : (edit : List Alteration) → names_altered (edit_back edit) ≡ names_altered edit
altered_back [] = refl
altered_back (a ∷ rest) = ap (λ names. a.name ∷ names) (altered_back rest)

pub back_twice : (edit : List Alteration) → edit_back (edit_back edit) ≡ edit
back_twice [] = refl
back_twice (a ∷ rest) = ap (λ edit. a ∷ edit) (back_twice rest)

turned_at : (edit : List Alteration) (k : ℕ) (a : Alteration) → k < length edit
    → slice_index_or edit k a ≡ a
    → (k < length (edit_back edit))
    × (slice_index_or (edit_back edit) k (alteration_back a) ≡ alteration_back a)
turned_at [] k a below at = absurd (omega arith)
turned_at (x ∷ edit) zero a below at = (omega arith, ap alteration_back at)
turned_at (x ∷ edit) (suc k) a below at = let rest = turned_at edit k a (omega arith) at in
    let in_rest : k < length (edit_back edit) = rest.0 in (omega arith, rest.1)

contains_turned : (edit : List Alteration) (a : Alteration) → Contains edit a
    → Contains (edit_back edit) (alteration_back a)
contains_turned edit a c = let at = turned_at edit c.0 a c.1 c.2 in (c.0, at.0, at.1)

turned_alters : (old new : Bundles) (a : Alteration) → IsAlteration old new a
    → IsAlteration new old (alteration_back a)
turned_alters old new a h =
    record { before = h.after; after = h.before; differs = λ same. h.differs (sym same) }

-- the edit the other way round is the edit back
pub turns_round : (old new : Bundles) (edit : List Alteration) → IsEdit old new edit
    → IsEdit new old (edit_back edit)
turns_round old new edit h = record {
  order = subst IsInByteOrder (sym (altered_back edit)) h.order;
  same = λ a. (
    λ c. turned_alters old new (alteration_back a)
        ((h.same (alteration_back a)).0
        (subst (λ e. Contains e (alteration_back a)) (back_twice edit)
        (contains_turned (edit_back edit) a c))),
    λ alters. contains_turned edit (alteration_back a)
        ((h.same (alteration_back a)).1 (turned_alters new old a alters)),
  );
}

-- a name that an edit alters is that of one of its alterations
pub named_in : (edit : List Alteration) (name : List ℕ) → Contains (names_altered edit) name
    → (a : Alteration) × Contains edit a × (a.name ≡ name)
named_in [] name there = absurd (none_contained name there)
named_in (a ∷ edit) name there = elim (contains_cases a.name (names_altered edit) name there) [
  | inl same ↦ (a, contains_first a edit, same)
  | inr later ↦
      let more = named_in edit name later in (more.0, contains_later a edit more.0 more.1, more.2)
]
