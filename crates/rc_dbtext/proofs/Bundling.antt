-- Sets and their members, and a table that a bundle is added to.
use Rattle.std.proofs.Common.{◌≡◌, ◌∙◌, ◌<◌, inl, inr, ℕ, zero, suc, Bool, true, false, cond}
use Rattle.std.proofs.Common.{List, [], ◌∷◌, ◌++◌, length, map, get_or, Contains, Some, None, All}
use Rattle.std.proofs.Common.{refl, ap, sym, subst, arith}
use Rattle.std.proofs.lemmas.Bool.{false≢true}
use Rattle.std.proofs.lemmas.List.{length-map, length_push, get_or-map, map_push}
use Rattle.std.proofs.lemmas.List.Elements.{All-head, All-tail, All-push, All-contains}
use Rattle.std.proofs.lemmas.List.Quantifiers.{all_pairs_push}
use Rattle.std.proofs.lemmas.Slice.Eq.{bytes_eq-Decides}
use Rattle.std.specs.Str.{bytes_eq}
use Rattle.rc_model.specs.Line.{IsChangedAt}
use Rattle.rc_model.specs.Names.{Has, Holds, IsAscending, IsName, IsBefore, IsInByteOrder}
use Rattle.rc_model.specs.Database.{Bundles, names_of, value_of, IsTable}
use Rattle.rc_dbtext.specs.Parts.{IsNamed}
use Rattle.rc_dbtext.specs.Spelling.{members, name_at}
use Rattle.rc_model.proofs.ByteOrder.{not_before_itself}
use Rattle.rc_model.proofs.Members.{contains_first, contains_later, contains_cases}
use Rattle.rc_dbtext.proofs.Naming.{mapped_member, member_mapped, named_back}

-- members are what a set has
has_later : (set : List Bool) → ((m : ℕ) → Contains (members set) m → Has set m) → (s : ℕ)
    → Contains (map suc (members set)) s → (m : ℕ) × Has set m × (suc m ≡ s)
has_later set each s has = let m = member_mapped suc (members set) s has in (m.0, each m.0 m.1, m.2)

pub has_member : (set : List Bool) (s : ℕ) → Contains (members set) s → Has set s
has_member [] s (k, within, is) = absurd (omega arith)
has_member (true ∷ rest) s has = elim (contains_cases 0 (map suc (members rest)) s has) [
  | inl first ↦ subst (Has (true ∷ rest)) first refl
  | inr later ↦
      let m = has_later rest (has_member rest) s later in subst (Has (true ∷ rest)) m.2 m.1
]
has_member (false ∷ rest) s has =
    let m = has_later rest (has_member rest) s has in subst (Has (false ∷ rest)) m.2 m.1

pub member_has : (set : List Bool) (s : ℕ) → Has set s → Contains (members set) s
member_has [] s has = absurd (false≢true has)
member_has (true ∷ rest) zero has = contains_first 0 (map suc (members rest))
member_has (true ∷ rest) (suc s) has =
    contains_later 0 (map suc (members rest)) (suc s)
    (mapped_member suc (members rest) s (member_has rest s has))
member_has (false ∷ rest) zero has = absurd (false≢true has)
member_has (false ∷ rest) (suc s) has = mapped_member suc (members rest) s (member_has rest s has)

-- and ascend
one_up : (xs : List ℕ) → IsAscending xs → IsAscending (map suc xs)
one_up xs ascending i j d low within =
    let high : j < length xs = omega (arith, length-map xs suc) in
    let lower : i < length xs = omega arith in
    let here : get_or (map suc xs) i d ≡ suc (get_or xs i 0) = get_or-map suc xs i 0 d lower in
    let there : get_or (map suc xs) j d ≡ suc (get_or xs j 0) = get_or-map suc xs j 0 d high in
    let less : get_or xs i 0 < get_or xs j 0 = ascending i j 0 low high in
    omega arith

zero_first : (xs : List ℕ) → IsAscending xs → IsAscending (0 ∷ map suc xs)
zero_first xs ascending i zero d low within = absurd (omega arith)
zero_first xs ascending zero (suc j) d low within =
    let high : j < length xs = omega (arith, length-map xs suc) in
    let there : get_or (map suc xs) j d ≡ suc (get_or xs j 0) = get_or-map suc xs j 0 d high in
    let less : 0 < get_or (map suc xs) j d = omega arith in
    less
zero_first xs ascending (suc i) (suc j) d low within =
    one_up xs ascending i j d (omega arith) (omega arith)

pub members_ascend : (set : List Bool) → IsAscending (members set)
members_ascend [] = λ i j d low within. absurd (omega arith)
members_ascend (true ∷ rest) = zero_first (members rest) (members_ascend rest)
members_ascend (false ∷ rest) = one_up (members rest) (members_ascend rest)

-- the members of a set that holds what texts in order name have those texts as their names
pub members_back : (names texts : List (List ℕ)) (set : List Bool) → IsInByteOrder names
    → IsInByteOrder texts → All (Contains names) texts → Holds set (IsNamed names texts)
    → map (name_at names) (members set) ≡ texts
members_back names texts set order ordered known holds =
    named_back names texts (members set) known
    (λ t. (
      λ has. (holds t).0 (has_member set t has),
      λ named. member_has set t ((holds t).1 named),
    )) order ordered (members_ascend set)

module _ (name : List ℕ) (set : List Bool) where
  -- one bundle more
  abbrev more : Bundles → Bundles
  more table = table ++ (name, set) ∷ []

  named_more : (table : Bundles) → names_of (more table) ≡ names_of table ++ name ∷ []
  named_more table = map_push (λ (b : List ℕ × List Bool). b.0) table (name, set)

  value_other : (table : Bundles) (x : List ℕ) → (x ≡ name → ⊥)
      → value_of (more table) x ≡ value_of table x
  value_other [] x other = by (bytes_eq x name) refl
    where
      by : (b : Bool) → bytes_eq x name ≡ b → cond b (Some set) None ≡ None
      by true e = absurd (other ((bytes_eq-Decides x name).0 e))
      by false e = refl
  value_other (bundle ∷ table) x other =
      ap (cond (bytes_eq x bundle.0) (Some bundle.1)) (value_other table x other)

  value_here : (table : Bundles) → All (λ other. IsBefore other name) (names_of table)
      → value_of (more table) name ≡ Some set
  value_here [] last = by (bytes_eq name name) ((bytes_eq-Decides name name).1 refl)
    where
      by : (b : Bool) → b ≡ true → cond b (Some set) None ≡ Some set
      by true e = refl
      by false e = absurd (false≢true e)
  value_here (bundle ∷ table) last =
      by (bytes_eq name bundle.0) refl
      (value_here table (All-tail (λ other. IsBefore other name) bundle.0 (names_of table) last))
    where
      by : (b : Bool) → bytes_eq name bundle.0 ≡ b → value_of (more table) name ≡ Some set
          → cond b (Some bundle.1) (value_of (more table) name) ≡ Some set
      by true e later =
          let before : IsBefore bundle.0 name =
          All-head (λ other. IsBefore other name) bundle.0 (names_of table) last in
          absurd (not_before_itself name
          (subst (λ (x : List ℕ). IsBefore x name) (sym ((bytes_eq-Decides name bundle.0).0 e))
          before))
      by false e later = later

  value_named : (table : Bundles) → value_of table name ≡ Some set → Contains (names_of table) name
  value_named [] found = let bad : None ≡ Some set = found in absurd cc
  value_named (bundle ∷ table) found = by (bytes_eq name bundle.0) refl found (value_named table)
    where
      by : (b : Bool) → bytes_eq name bundle.0 ≡ b
          → cond b (Some bundle.1) (value_of table name) ≡ Some set
          → (value_of table name ≡ Some set → Contains (names_of table) name)
          → Contains (names_of (bundle ∷ table)) name
      by true e found later = (0, omega arith, sym ((bytes_eq-Decides name bundle.0).0 e))
      by false e found later = contains_later bundle.0 (names_of table) name (later found)

  -- a table in which a name after all others has a set is the old one and that bundle
  pub added_last : ((a b : Bundles) → IsTable a → IsTable b
      → ((x : List ℕ) → value_of a x ≡ value_of b x) → a ≡ b) → (old new : Bundles) → IsTable old
      → IsTable new → length old < 4096
      → All (λ other. IsBefore other name) (names_of old) → IsChangedAt old name (Some set) new
      → new ≡ more old
  added_last same old new is_old is_new room last changed =
      same new (more old) is_new (record {
        order =
            subst IsInByteOrder (sym (named_more old))
            (all_pairs_push IsBefore (names_of old) name is_old.order last);
        each =
            subst (λ (ns : List (List ℕ)). All IsName ns) (sym (named_more old))
            (All-push IsName (names_of old) name is_old.each
            (All-contains IsName (names_of new) name is_new.each (value_named new changed.here)));
        few = omega (arith, length_push old (name, set));
      }) (λ x. by x (bytes_eq x name) refl)
    where
      by : (x : List ℕ) (b : Bool) → bytes_eq x name ≡ b → value_of new x ≡ value_of (more old) x
      by x true e =
          let same_name : x ≡ name = (bytes_eq-Decides x name).0 e in
          ap (value_of new) same_name ∙ changed.here ∙ sym (value_here old last)
          ∙ sym (ap (value_of (more old)) same_name)
      by x false e =
          let other : x ≡ name → ⊥ = λ is. false≢true (sym e ∙ (bytes_eq-Decides x name).1 is) in
          changed.others x other ∙ sym (value_other old x other)
