-- Databases of the same definitions are one.
use Rattle.std.proofs.Common.{◌≡◌, ◌∙◌, ◌<◌, inl, inr, ℕ, suc, Bool, false, List, [], ◌∷◌}
use Rattle.std.proofs.Common.{length, get_or, slice_get, Contains, Option, Some, None, refl, sym}
use Rattle.std.proofs.Common.{ap, subst, arith}
use Rattle.std.specs.Option.{option_map}
use Rattle.std.proofs.lemmas.Option.{slice_get-get_or, same_Some}
use Rattle.std.specs.Cmp.{both_ways}
use Rattle.rc_model.specs.Names.{IsInByteOrder, Has, IsAscending}
use Rattle.rc_model.proofs.SetMembers.{has_within}
use Rattle.rc_model.specs.Graph.{Needs}
use Rattle.rc_graph.proofs.RowLemmas.{needer_known}
use Rattle.rc_model.specs.Database.{Service, names_of, value_of, Database, IsDatabase}
use Rattle.rc_model.proofs.Tables.{same_table}
use Rattle.rc_db.proofs.Values.{named_by_value}
use Rattle.rc_db.proofs.Words.{bound_of_value, value_of-named}
use Rattle.rc_source.specs.Meaning.{Meaning}
use Rattle.rc_source.proofs.Members.{Contains-cons_cases, Contains-here}
use Rattle.rc_source.proofs.Members.{listed_once}
use Rattle.rc_model.proofs.ByteOrder.{one_place}
use Rattle.rc_model.proofs.Members.{contains_at, contains_later, none_contained}
use Rattle.rc_model.proofs.Places.{same_by_places, rest_ascends}
use Rattle.rc_compile.specs.Pipelines.{IsService}
use Rattle.rc_compile.specs.Standing.{IsBundle}
use Rattle.rc_compile.specs.Compiled.{IsAsDefined, IsDatabaseOf}

same_at : {X : Type 0} (xs ys : List X) (i : ℕ) (d : X) → length xs ≡ length ys → i < length xs
    → get_or xs i d ≡ get_or ys i d → slice_get xs i ≡ slice_get ys i
same_at xs ys i d long low same =
    slice_get-get_or xs i d low ∙ ap (λ x. Some x) same
    ∙ sym (slice_get-get_or ys i d (omega arith))

-- the first of ascending ids is below each later one
head_below : (x : ℕ) (xs : List ℕ) → IsAscending (x ∷ xs) → (y : ℕ) → Contains xs y → x < y
head_below x xs up y (k, within, here) =
    subst (λ z. x < z) here (up 0 (suc k) y (omega arith) (omega arith))

-- ascending lists of the same ids are one
same_ids : (xs ys : List ℕ) → IsAscending xs → IsAscending ys
    → ((n : ℕ) → Contains xs n → Contains ys n) → ((n : ℕ) → Contains ys n → Contains xs n)
    → xs ≡ ys
same_ids [] [] up vp to from = refl
same_ids [] (y ∷ ys) up vp to from = absurd (none_contained y (from y (Contains-here y ys y refl)))
same_ids (x ∷ xs) [] up vp to from = absurd (none_contained x (to x (Contains-here x xs x refl)))
same_ids (x ∷ xs) (y ∷ ys) up vp to from =
    let first : x ≡ y = elim (Contains-cons_cases y ys x (to x (Contains-here x xs x refl))) [
      | inl here ↦ here
      | inr behind ↦ elim (Contains-cons_cases x xs y (from y (Contains-here y ys y refl))) [
        | inl here ↦ sym here
        | inr other ↦
            let above : x < y = head_below x xs up y other in
            let below : y < x = head_below y ys vp x behind in
            absurd (omega arith)
      ]
    ] in
    let forth : (n : ℕ) → Contains xs n → Contains ys n =
    λ n there. elim (Contains-cons_cases y ys n (to n (contains_later x xs n there))) [
      | inl at ↦ (let low : x < n = head_below x xs up n there in absurd (omega (arith, at, first)))
      | inr rest ↦ rest
    ] in
    let back : (n : ℕ) → Contains ys n → Contains xs n =
    λ n there. elim (Contains-cons_cases x xs n (from n (contains_later y ys n there))) [
      | inl at ↦ (let low : y < n = head_below y ys vp n there in absurd (omega (arith, at, first)))
      | inr rest ↦ rest
    ] in
    let tail : xs ≡ ys = same_ids xs ys (rest_ascends x xs up) (rest_ascends y ys vp) forth back in
    cc

one_target : (xs : List (List ℕ)) → IsInByteOrder xs → (p q : Option ℕ) (c : Option (List ℕ))
    → option_map (slice_get xs) p ≡ option_map (λ name. Some name) c
    → option_map (slice_get xs) q ≡ option_map (λ name. Some name) c → p ≡ q
one_target xs up None None c hp hq = refl
one_target xs up None (Some j) None hp hq = let bad : Some (slice_get xs j) ≡ None = hq in cc
one_target xs up None (Some j) (Some x) hp hq = let bad : None ≡ Some (Some x) = hp in cc
one_target xs up (Some i) q None hp hq = let bad : Some (slice_get xs i) ≡ None = hp in cc
one_target xs up (Some i) None (Some x) hp hq = let bad : None ≡ Some (Some x) = hq in cc
one_target xs up (Some i) (Some j) (Some x) hp hq =
    ap (λ k. Some k) (one_place xs x i j up (same_Some _ _ hp) (same_Some _ _ hq))

one_service : (xs : List (List ℕ)) → IsInByteOrder xs → (m : Meaning) (a b : Service)
    → IsAsDefined xs m a → IsAsDefined xs m b → a ≡ b
one_service xs up m a b ha hb = λ n. record {
  kind = (ha.kind ∙ sym hb.kind) n;
  essential = (ha.essential ∙ sym hb.essential) n;
  limit_up = (ha.limit_up ∙ sym hb.limit_up) n;
  limit_down = (ha.limit_down ∙ sym hb.limit_down) n;
  text_up = (ha.text_up ∙ sym hb.text_up) n;
  text_down = (ha.text_down ∙ sym hb.text_down) n;
  producer_for =
      one_target xs up a.producer_for b.producer_for m.producer_for ha.producer_for
      hb.producer_for n;
}

module _ (ms : List Meaning) (d e : Database) (of : IsDatabaseOf ms d)
    (also : IsDatabaseOf ms e) where
  one_names : d.names ≡ e.names
  one_names = listed_once (IsService ms) d.names e.names of.names also.names

  -- what stands at a place of one stands there in the other
  named_too : (s : ℕ) (name : List ℕ) → slice_get d.names s ≡ Some name
      → slice_get e.names s ≡ Some name
  named_too s name at =
      subst (λ (names : List (List ℕ)). slice_get names s ≡ Some name) one_names at

  name_at : (s : ℕ) → s < length d.names → slice_get d.names s ≡ Some (get_or d.names s [])
  name_at s low = slice_get-get_or d.names s [] low

  services_same : IsDatabase d → (s : ℕ) → s < length d.services
      → slice_get d.services s ≡ slice_get e.services s
  services_same is s low =
      let name = get_or d.names s [] in
      let at = name_at s (omega (arith, is.fit.services)) in
      let (m, in_ms, called, kind) = (of.names.same name).0 (contains_at d.names s name at) in
      let at_m : slice_get d.names s ≡ Some m.name =
      at ∙ ap (λ (x : List ℕ). Some x) (sym called) in
      let here = of.services m s in_ms at_m in
      let there = also.services m s in_ms (named_too s m.name at_m) in
      let same : here.0 ≡ there.0 = one_service d.names of.names.order m here.0 there.0 here.2
      (subst (λ (names : List (List ℕ)). IsAsDefined names m there.0) (sym one_names) there.2) in
      here.1 ∙ ap (λ (x : Service). Some x) same ∙ sym there.1

  needs_too : IsDatabase d → (s t : ℕ) → Needs d.needs s t → Needs e.needs s t
  needs_too is s t need =
      let a = get_or d.names s [] in
      let b = get_or d.names t [] in
      let at_s = name_at s (omega (arith, needer_known d.needs s t need, is.fit.graph)) in
      let at_t = name_at t (omega (arith, is.needs.known s t need, is.fit.graph)) in
      (also.needs a b s t (named_too s a at_s) (named_too t b at_t)).1
      ((of.needs a b s t at_s at_t).0 need)

  has_too : IsDatabase d → (name : List ℕ) (a b : List Bool) → value_of d.table name ≡ Some a
      → value_of e.table name ≡ Some b → (s : ℕ) → Has a s → Has b s
  has_too is name a b value_a value_b s has =
      let own = get_or d.names s [] in
      let at =
      name_at s
      (omega (
        arith,
        has_within a s has,
        bound_of_value (length d.names) d.table name a is.fit.bounds value_a,
      )) in
      (also.sets name own b s value_b (named_too s own at)).1
      ((of.sets name own a s value_a at).0 has)

module _ (ms : List Meaning) (d e : Database) (of : IsDatabaseOf ms d) (also : IsDatabaseOf ms e)
    (is_d : IsDatabase d) (is_e : IsDatabase e) where
  value_too : (name : List ℕ) (a : List Bool) → value_of d.table name ≡ Some a
      → value_of e.table name ≡ Some a
  value_too name a value_a =
      let bundles =
      listed_once (IsBundle ms) (names_of d.table) (names_of e.table) of.bundles also.bundles in
      let (b, value_b) = value_of-named e.table name
      (subst (λ (names : List (List ℕ)). Contains names name) bundles
      (named_by_value d.table name a value_a)) in
      let long_a = bound_of_value (length d.names) d.table name a is_d.fit.bounds value_a in
      let long_b = bound_of_value (length e.names) e.table name b is_e.fit.bounds value_b in
      let long : length a ≡ length b = long_a ∙ ap length (one_names ms d e of also) ∙ sym long_b in
      let same : a ≡ b = same_by_places a b long (λ s low. same_at a b s false long low
      (both_ways (get_or a s false) (get_or b s false)
      (has_too ms d e of also is_d name a b value_a value_b s)
      (has_too ms e d also of is_e name b a value_b value_a s))) in
      value_b ∙ ap (λ (set : List Bool). Some set) (sym same)

one_value : (ms : List Meaning) (d e : Database) → IsDatabaseOf ms d → IsDatabaseOf ms e
    → IsDatabase d → IsDatabase e → (name : List ℕ) → value_of d.table name ≡ value_of e.table name
one_value ms d e of also is_d is_e name =
    by (value_of d.table name) refl (value_of e.table name) refl
  where
    by : (a : Option (List Bool)) → value_of d.table name ≡ a → (b : Option (List Bool))
        → value_of e.table name ≡ b → value_of d.table name ≡ value_of e.table name
    by (Some a) value_a b value_b =
        value_a ∙ sym (value_too ms d e of also is_d is_e name a value_a)
    by None value_a None value_b = value_a ∙ sym value_b
    by None value_a (Some b) value_b =
        value_too ms e d also of is_e is_d name b value_b ∙ sym value_b

pub one_database : (ms : List Meaning) (d e : Database) → IsDatabaseOf ms d → IsDatabaseOf ms e
    → IsDatabase d → IsDatabase e → d ≡ e
one_database ms d e of also is_d is_e =
    let names : d.names ≡ e.names = one_names ms d e of also in
    let services : d.services ≡ e.services = same_by_places d.services e.services
    (is_d.fit.services ∙ ap length names ∙ sym is_e.fit.services)
    (services_same ms d e of also is_d) in
    let long : length d.needs ≡ length e.needs =
    is_d.fit.graph ∙ ap length names ∙ sym is_e.fit.graph in
    let needs : d.needs ≡ e.needs =
    same_by_places d.needs e.needs long (λ s low. same_at d.needs e.needs s [] long low
    (same_ids (get_or d.needs s []) (get_or e.needs s []) (is_d.needs.ascending s)
    (is_e.needs.ascending s) (needs_too ms d e of also is_d s) (needs_too ms e d also of is_e s)))
    in
    let table : d.table ≡ e.table =
    same_table d.table e.table is_d.table is_e.table (one_value ms d e of also is_d is_e) in
    λ n. record { names = names n; services = services n; needs = needs n; table = table n }
