-- What a table is after a bundle went in, was written over or was taken out.
use Rattle.std.proofs.Common.{◌≡◌, ◌∙◌, ◌<◌, ◌≤◌, ℕ, Bool, List, [], ◌∷◌, ◌++◌, length}
use Rattle.std.proofs.Common.{insert, remove, set as put, get_or, slice_get, Option, Some}
use Rattle.std.proofs.Common.{None, All, refl, ap, sym, subst, arith, length-append}
use Rattle.std.proofs.lemmas.List.{length-map, length-set, map-append}
use Rattle.std.proofs.lemmas.List.Edits.{length-insert}
use Rattle.std.proofs.lemmas.List.Elements.{All-push}
use Rattle.std.proofs.lemmas.List.Quantifiers.{all_pairs_push}
use Rattle.std.proofs.lemmas.Option.{slice_get_read, slice_get_within, slice_get-map}
use Rattle.std.specs.Option.{option_map}
use Rattle.std.specs.Str.{bytes_eq}
use Rattle.rc_names.proofs.Growth.{gap_absent, order_grown, each_grown}
use Rattle.rc_names.specs.Names.{IsGap}
use Rattle.rc_model.specs.Line.{IsChangedAt}
use Rattle.rc_model.specs.Names.{IsName, IsBefore, IsInByteOrder}
use Rattle.rc_model.specs.Database.{Bundles, names_of, value_of, IsTable}
use Rattle.rc_model.proofs.Mapped.{map-insert}
use Rattle.rc_db.proofs.Values.{changed_at, insert_new, value_of-absent, set_at, names_of-put}
use Rattle.rc_db.proofs.Values.{value_at, remove_at, take_out, table_without}

-- a table that is changed under one name
pub record IsChangedTable (table : Bundles) (name : List ℕ) (value : Option (List Bool))
    (new : Bundles) : Type 0 where
  pub held : IsTable new
  pub changed : IsChangedAt table name value new

module _ (table : Bundles) (held : IsTable table) (name : List ℕ) where
  -- a name that no bundle has is taken out of the table that stands
  pub cleared_none : (place : ℕ) → IsGap (names_of table) name place → value_of table name ≡ None
  cleared_none place gap = value_of-absent table name (gap_absent (names_of table) name place gap)

  pub changed_none : (place : ℕ) → IsGap (names_of table) name place
      → IsChangedAt table name None table
  changed_none place gap = record { here = cleared_none place gap; others = λ q differ. refl }

  module _ (place : ℕ) (there : slice_get (names_of table) place ≡ Some name) where
    pub cleared : IsChangedTable table name None (remove table place)
    cleared = subst (λ t. IsChangedTable table name None t) (sym
        (remove_at table place name held.order there)) (record {
          held = table_without (bytes_eq name) table held;
          changed = changed_at table _ name None (take_out table name held.order);
        })

    -- the bundle that stands there has the name, and its set is that of the name
    pub standing : (bundle : List ℕ × List Bool) → bundle ≡ get_or table place bundle
        → (bundle.0 ≡ name) × (value_of table name ≡ Some bundle.1)
    standing bundle read =
        let within : place < length (names_of table) =
        slice_get_within (names_of table) place name there in
        let at : slice_get table place ≡ Some bundle =
        slice_get_read table (length table) place bundle refl (omega
        (arith, within, length-map table (λ b. b.0))) read in
        let shown : slice_get (names_of table) place ≡ Some bundle.0 =
        slice_get-map (λ b. b.0) table place ∙ ap (option_map (λ b. b.0)) at in
        let same : bundle.0 ≡ name = cc in (
          same,
          value_at table place name bundle.1 held.order (at
              ∙ ap (λ n. Some (n, bundle.1)) same),
        )

    pub written : (set : List Bool) → IsChangedTable table name (Some set) (put table place
        (name, set))
    written set =
        let same = names_of-put table place name set there in
        record {
          held = record {
            order = subst IsInByteOrder (sym same) held.order;
            each = subst (λ (ns : List (List ℕ)). All IsName ns) (sym same) held.each;
            few = omega (arith, length-set table place (name, set), held.few);
          };
          changed = changed_at table _ name (Some set)
              (set_at table place name set held.order there);
        }

  module _ (place : ℕ) (gap : IsGap (names_of table) name place) (good : IsName name)
      (room : length table < 4096) where
    pub inserted : (set : List Bool) → IsChangedTable table name (Some set) (insert table place
        (name, set))
    inserted set =
        let names : names_of (insert table place (name, set)) ≡ insert
        (names_of table) place name = map-insert (λ bundle. bundle.0) table place (name, set) in
        let within : place ≤ length table = omega (
          arith,
          gap.within,
          length-map table
              (λ bundle. bundle.0),
        ) in
        record {
          held = record {
            order = subst IsInByteOrder (sym names) (order_grown
                (names_of table) name place gap held.order);
            each = subst (λ (ns : List (List ℕ)). All IsName ns) (sym names) (each_grown
                (names_of table) name place gap held.each good);
            few = omega (arith, length-insert table place (name, set) within);
          };
          changed = changed_at table _ name (Some set) (insert_new table place name set
              (cleared_none place gap));
        }

  -- one more bundle after the others
  pub pushed : (set : List Bool) → IsName name → length table < 4096
      → All (λ other. IsBefore other name) (names_of table) → IsTable (table ++ (name, set) ∷ [])
  pushed set good room last =
      let names : names_of (table ++ (name, set) ∷ []) ≡ names_of table ++ name ∷ [] =
      map-append (λ bundle. bundle.0) table ((name, set) ∷ []) in
      record {
        order = subst IsInByteOrder (sym names) (all_pairs_push IsBefore
            (names_of table) name held.order last);
        each = subst (λ (ns : List (List ℕ)). All IsName ns) (sym names) (All-push IsName
            (names_of table) name held.each good);
        few = omega (arith, length-append table ((name, set) ∷ []));
      }
