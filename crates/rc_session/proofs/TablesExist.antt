-- Bundles that are defined or removed: there is a table, or a first fault.
use Rattle.std.proofs.Common.{◌≡◌, ◌≢◌, ◌∙◌, ◌⊎◌, ◌<◌, ◌≤◌, ℕ, zero, suc, inl, inr, Bool, true}
use Rattle.std.proofs.Common.{false, cond, List, [], ◌∷◌, ◌++◌, length, slice_index_or, All}
use Rattle.std.proofs.Common.{Contains, Option, None, Some, append_assoc, refl, ap, sym, subst}
use Rattle.std.proofs.Common.{arith}
use Rattle.std.proofs.lemmas.Bool.{cases_lt}
use Rattle.std.proofs.lemmas.List.{append-nil, length-map}
use Rattle.std.proofs.lemmas.List.Elements.{All-nil, All-cons}
use Rattle.std.proofs.lemmas.List.Kept.{AllPairs-cons}
use Rattle.std.proofs.lemmas.Slice.Eq.{bytes_eq-Decides}
use Rattle.std.specs.Cmp.Lexicographic.{slice_cmp}
use Rattle.std.specs.Ordering.{nat_cmp}
use Rattle.std.specs.declared.cmp.Ordering.{Ordering}
use Rattle.std.specs.declared.cmp.Ordering.TheVariants.{Less, Equal, Greater}
use Rattle.std.specs.Map.{remove_entry}
use Rattle.std.specs.Str.{bytes_eq}
use Rattle.rc_model.specs.Names.{IsName, IsBefore, IsInByteOrder}
use Rattle.rc_model.proofs.ByteOrder.{same_or_other, same_text, order_head, order_tail}
use Rattle.rc_model.proofs.Members.{contains_first, contains_later, contains_cases, none_contained}
use Rattle.rc_model.specs.Database.{Bundles, names_of, value_of, IsTable}
use Rattle.rc_db.proofs.Values.{changed_at, take_out, table_without}
use Rattle.rc_model.specs.Line.{Removes, IsChangedAt}
use Rattle.rc_bundle.proofs.Changes.{removes_more}
use Rattle.rc_model.proofs.Texts.{before_from_after, before_trans}
use Rattle.rc_session.proofs.Deciding.{member_decided}

-- of two names that are not one, one stands before the other
before_or_after : (a b : List ℕ) → a ≢ b → IsBefore a b ⊎ IsBefore b a
before_or_after a b other = by (slice_cmp nat_cmp a b) refl
  where
    by : (ordering : Ordering) → slice_cmp nat_cmp a b ≡ ordering → IsBefore a b ⊎ IsBefore b a
    by Less is = inl is
    by Equal is = absurd (other (same_text a b is))
    by Greater is = inr (before_from_after a b is)

-- two tests of which one at most holds may be asked in either order
turned : (a b : Bool) (x y value : Option (List Bool)) → (a ≡ true → b ≡ true → ⊥)
    → cond a x (cond b y value) ≡ cond b y (cond a x value)
turned true true x y value never = absurd (never refl refl)
turned true false x y value never = refl
turned false true x y value never = refl
turned false false x y value never = refl

-- and of one test the first answer counts
covers : (a : Bool) (x y value : Option (List Bool)) → cond a x value ≡ cond a x (cond a y value)
covers true x y value = refl
covers false x y value = refl

-- a table with one more bundle, in its place
pub record IsWith (old : Bundles) (name : List ℕ) (set : List Bool) (new : Bundles) : Type 0 where
  pub order : IsInByteOrder (names_of new)
  pub names : (other : List ℕ) → Contains (names_of new) other
      → (other ≡ name) ⊎ Contains (names_of old) other
  pub now : (q : List ℕ) → value_of new q ≡ cond (bytes_eq q name) (Some set) (value_of old q)
  pub long : length new ≡ suc (length old)

pub all_from : (P : List ℕ → Type 0) (xs : List (List ℕ)) → ((x : List ℕ) → Contains xs x → P x)
    → All P xs
all_from P xs each = λ k d within. each (slice_index_or xs k d)
    (k, within, same_default xs k (slice_index_or xs k d) d within)
  where
    same_default : (ys : List (List ℕ)) (k : ℕ) (a b : List ℕ) → k < length ys
        → slice_index_or ys k a ≡ slice_index_or ys k b
    same_default [] k a b within = absurd (omega arith)
    same_default (y ∷ ys) zero a b within = refl
    same_default (y ∷ ys) (suc k) a b within = same_default ys k a b (omega arith)

pub put_in : (table : Bundles) (name : List ℕ) (set : List Bool) → IsInByteOrder (names_of table)
    → (Contains (names_of table) name → ⊥) → (new : Bundles) × IsWith table name set new
put_in [] name set order fresh = (
  (name, set) ∷ [],
  record {
    order = AllPairs-cons IsBefore name [] (All-nil (IsBefore name)) order;
    names = λ other there. elim (contains_cases name [] other there) [
      | inl here ↦ inl (sym here)
      | inr later ↦ inr later
    ];
    now = λ q. refl;
    long = refl;
  },
)
put_in (bundle ∷ rest) name set order fresh =
    elim (before_or_after name bundle.0
    (λ same. fresh
    (subst (λ x. Contains (bundle.0 ∷ names_of rest) x) (sym same)
    (contains_first bundle.0 (names_of rest))))) [
      | inl first ↦ (
        (name, set) ∷ bundle ∷ rest,
        record {
          order = AllPairs-cons IsBefore name (bundle.0 ∷ names_of rest)
              (All-cons (IsBefore name) bundle.0 (names_of rest) first
              (λ k d within. before_trans name bundle.0 (slice_index_or (names_of rest) k d) first
              (order_head bundle.0 (names_of rest) order k d within))) order;
          names = λ other there. elim (contains_cases name (bundle.0 ∷ names_of rest) other there) [
            | inl here ↦ inl (sym here)
            | inr later ↦ inr later
          ];
          now = λ q. refl;
          long = refl;
        },
      )
      | inr after ↦
          let more = put_in rest name set (order_tail bundle.0 (names_of rest) order)
          (λ there. fresh (contains_later bundle.0 (names_of rest) name there)) in (
            bundle ∷ more.0,
            record {
              order =
                  AllPairs-cons IsBefore bundle.0 (names_of more.0)
                  (all_from (IsBefore bundle.0) (names_of more.0)
                  (λ other there. elim (more.1.names other there) [
                    | inl here ↦ subst (IsBefore bundle.0) (sym here) after
                    | inr was ↦ behind other was
                  ])) more.1.order;
              names = λ other there. elim (contains_cases bundle.0 (names_of more.0) other there) [
                | inl here ↦
                    inr (subst (λ x. Contains (bundle.0 ∷ names_of rest) x) here
                    (contains_first bundle.0 (names_of rest)))
                | inr later ↦ elim (more.1.names other later) [
                  | inl is ↦ inl is
                  | inr was ↦ inr (contains_later bundle.0 (names_of rest) other was)
                ]
              ];
              now = λ q. ap (λ v. cond (bytes_eq q bundle.0) (Some bundle.1) v) (more.1.now q)
                  ∙ turned (bytes_eq q bundle.0) (bytes_eq q name) (Some bundle.1) (Some set)
                  (value_of rest q) (one_alone q);
              long = ap suc more.1.long;
            },
          )
    ]
  where
    behind : (other : List ℕ) → Contains (names_of rest) other → IsBefore bundle.0 other
    behind other there =
        subst (IsBefore bundle.0) there.2
        (order_head bundle.0 (names_of rest) order there.0 other there.1)

    one_alone : (q : List ℕ) → bytes_eq q bundle.0 ≡ true → bytes_eq q name ≡ true → ⊥
    one_alone q is_bundle is_name =
        let here : q ≡ bundle.0 = (bytes_eq-Decides q bundle.0).0 is_bundle in
        let there : q ≡ name = (bytes_eq-Decides q name).0 is_name in
        fresh (subst (λ x. Contains (bundle.0 ∷ names_of rest) x) (sym here ∙ there)
        (contains_first bundle.0 (names_of rest)))

-- a table with another set under a name that it has
record IsReset (old : Bundles) (name : List ℕ) (set : List Bool) (new : Bundles) : Type 0 where
  names : names_of new ≡ names_of old
  now : (q : List ℕ) → value_of new q ≡ cond (bytes_eq q name) (Some set) (value_of old q)

reset : (table : Bundles) (name : List ℕ) (set : List Bool) → Contains (names_of table) name
    → (new : Bundles) × IsReset table name set new
reset [] name set there = absurd (none_contained name there)
reset (bundle ∷ rest) name set there = elim (same_or_other bundle.0 name) [
  | inl same ↦ (
    (bundle.0, set) ∷ rest,
    record {
      names = refl;
      now =
          λ q. subst (λ (x : List ℕ). cond (bytes_eq q bundle.0) (Some set) (value_of rest q)
          ≡ cond (bytes_eq q x) (Some set)
          (cond (bytes_eq q bundle.0) (Some bundle.1) (value_of rest q))) same
          (covers (bytes_eq q bundle.0) (Some set) (Some bundle.1) (value_of rest q));
    },
  )
  | inr other ↦
      let more = reset rest name set (elim (contains_cases bundle.0 (names_of rest) name there) [
        | inl same ↦ absurd (other same)
        | inr later ↦ later
      ]) in (
        bundle ∷ more.0,
        record {
          names = ap (λ ns. bundle.0 ∷ ns) more.1.names;
          now = λ q. ap (λ v. cond (bytes_eq q bundle.0) (Some bundle.1) v) (more.1.now q)
              ∙ turned (bytes_eq q bundle.0) (bytes_eq q name) (Some bundle.1) (Some set)
              (value_of rest q)
              (λ is_bundle is_name. other
              (sym ((bytes_eq-Decides q bundle.0).0 is_bundle)
              ∙ (bytes_eq-Decides q name).0 is_name));
        },
      )
]

-- a name with a set, new or not
pub define : (table : Bundles) (name : List ℕ) (set : List Bool) → IsTable table → IsName name
    → (4096 ≤ length table → Contains (names_of table) name)
    → (new : Bundles) × IsTable new × IsChangedAt table name (Some set) new
define table name set held good place = elim (member_decided (names_of table) name same_or_other) [
  | inl there ↦
      let again = reset table name set there in
      let names : length (names_of again.0) ≡ length (names_of table) = ap length again.1.names in (
        again.0,
        record {
          order = subst IsInByteOrder (sym again.1.names) held.order;
          each = let P : List (List ℕ) → Type 0 = λ ns. All IsName ns in
              subst P (sym again.1.names) held.each;
          few = let most : length table ≤ 4096 = held.few in
              omega (arith, length-map again.0 (λ b. b.0), length-map table (λ b. b.0));
        },
        changed_at table again.0 name (Some set) (record { at = again.1.now }),
      )
  | inr fresh ↦
      let more = put_in table name set held.order fresh in
      let long : length more.0 ≡ suc (length table) = more.1.long in
      let room : length table < 4096 = elim (cases_lt (length table) 4096) [
        | inl low ↦ low
        | inr full ↦ absurd (fresh (place (omega arith)))
      ] in (
        more.0,
        record {
          order = more.1.order;
          each = all_from IsName (names_of more.0) (λ other there. elim (more.1.names other there) [
            | inl here ↦ subst IsName (sym here) good
            | inr was ↦ subst IsName was.2 (held.each was.0 other was.1)
          ]);
          few = omega arith;
        },
        changed_at table more.0 name (Some set) (record { at = more.1.now }),
      )
]

-- names that are removed, one after the other
remove_on : (old table : Bundles) (gone words : List (List ℕ)) → IsTable table
    → Removes old gone table → (new : Bundles) × IsTable new × Removes old (gone ++ words) new
remove_on old table gone [] held removes = (
  table,
  held,
  subst (λ (ws : List (List ℕ)). Removes old ws table) (sym (append-nil gone)) removes,
)
remove_on old table gone (word ∷ words) held removes =
    let without : Bundles = remove_entry (bytes_eq word) table in
    let rest =
    remove_on old without (gone ++ word ∷ []) words (table_without (bytes_eq word) table held)
    (removes_more old table without gone word removes
    (changed_at table without word None (take_out table word held.order))) in (
      rest.0,
      rest.1,
      subst (λ (ws : List (List ℕ)). Removes old ws rest.0) (append_assoc gone (word ∷ []) words)
          rest.2,
    )

pub remove : (table : Bundles) (words : List (List ℕ)) → IsTable table
    → (new : Bundles) × IsTable new × Removes table words new
remove table words held =
    remove_on table table [] words held
    (record {
      gone = λ name there. absurd (none_contained name there);
      others =
          λ name absent. refl;
    })
