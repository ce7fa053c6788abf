-- The parts that definitions give fit together, and make the database of the definitions.
use Rattle.std.proofs.Common.{◌≡◌, ◌≢◌, ◌∙◌, ◌↔◌, ℕ, ◌<◌, inr, Bool, List, [], length, get_or}
use Rattle.std.proofs.Common.{slice_get, All, Contains, Option, Some, None, IsSome, IfSome, refl}
use Rattle.std.proofs.Common.{sym, ap, subst, arith}
use Rattle.std.specs.Option.{option_map}
use Rattle.std.proofs.lemmas.Option.{slice_get-get_or, slice_get_within, same_Some}
use Rattle.std.proofs.lemmas.List.Elements.{All-contains}
use Rattle.rc_model.specs.declared.Kind.TheVariants.{Oneshot, Longrun, Bundle}
use Rattle.rc_model.specs.Names.{IsInByteOrder, Has}
use Rattle.rc_model.specs.Database.{Service, Bundles, names_of, value_of, HaveBound, Database}
use Rattle.rc_model.specs.Database.{IsKind, FitTogether}
use Rattle.rc_db.specs.Service.{IsScript, IsWritableService}
use Rattle.rc_db.specs.Database.{IsWritable}
use Rattle.rc_model.proofs.Places.{all_places, contains_at as places_contain}
use Rattle.rc_model.proofs.Members.{contains_at}
use Rattle.rc_source.specs.Texts.{IsScriptText}
use Rattle.rc_source.specs.Meaning.{Meaning, IsMeaning, AreMeanings}
use Rattle.rc_compile.specs.Pipelines.{IsDefined, IsService, IsLongrun, WritesTo}
use Rattle.rc_compile.specs.Standing.{IsBundle, NeedsNamed, StandsFor}
use Rattle.rc_compile.specs.Mirror.{Mirrors}
use Rattle.rc_compile.proofs.Meanings.{only_one, longrun_is_service}
use Rattle.rc_compile.specs.Compiled.{IsAsDefined, IsDatabaseOf}
use Rattle.rc_compile.specs.CompileFaults.{HasTakenName, HasWrongType}
use Rattle.rc_compile.specs.Placed.{AreAsDefined}
use Rattle.rc_compile.proofs.Bridges.{both_longruns, are_apart}

-- the one that a service writes to is in the table where the definition names it
named_target : (names : List (List ℕ)) (p : Option ℕ) (c : Option (List ℕ)) (t : ℕ)
    → option_map (slice_get names) p ≡ option_map (λ name. Some name) c → p ≡ Some t
    → (name : List ℕ) × (c ≡ Some name) × (slice_get names t ≡ Some name)
named_target names p None t same is =
    let first : Some (slice_get names t) ≡ option_map (slice_get names) p =
    ap (option_map (slice_get names)) (sym is) in
    let bad : Some (slice_get names t) ≡ None = first ∙ same in cc
named_target names p (Some name) t same is =
    let first : Some (slice_get names t) ≡ option_map (slice_get names) p =
    ap (option_map (slice_get names)) (sym is) in
    (name, refl, same_Some (slice_get names t) (Some name) (first ∙ same))

script_from : (text : Option (List ℕ)) → IfSome text IsScriptText → IfSome text IsScript
script_from None is = tt
script_from (Some text) is = record { short = is.short; bytes = is.is_text.1; utf8 = is.is_text.0 }

module _ (ms : List Meaning) (names : List (List ℕ)) (services : List Service)
    (graph : List (List ℕ)) (table : Bundles) (are : AreMeanings ms)
    (is_service : (name : List ℕ) → Contains names name ↔ IsService ms name)
    (defined : AreAsDefined ms names services) (mirrors : Mirrors (NeedsNamed ms) names names graph)
    (is_bundle : (name : List ℕ) → Contains (names_of table) name ↔ IsBundle ms name)
    (right : (s : List ℕ) → HasWrongType ms s → ⊥) where
  -- the database of these parts
  abbrev whole : Database
  whole = record { names = names; services = services; needs = graph; table = table }

  -- what stands at the place of a service
  at_service : (s : ℕ) (service : Service) → slice_get services s ≡ Some service
      → (m : Meaning) × Contains ms m × (slice_get names s ≡ Some m.name)
      × IsAsDefined names m service
  at_service s service at =
      let low : s < length names =
      omega (arith, slice_get_within services s service at, defined.long) in
      let name = get_or names s [] in
      let at_s : slice_get names s ≡ Some name = slice_get-get_or names s [] low in
      let found = defined.each s name at_s in
      let same : found.1 ≡ service = same_Some found.1 service (sym found.4 ∙ at) in (
        found.0,
        found.2,
        at_s ∙ ap (λ (x : List ℕ). Some x) (sym found.3),
        subst (IsAsDefined names found.0) same found.5,
      )

  -- what a service writes to
  feeds_named : (s t : ℕ) (service : Service) → slice_get services s ≡ Some service
      → service.producer_for ≡ Some t → (a c : List ℕ) × (slice_get names s ≡ Some a)
      × (slice_get names t ≡ Some c) × WritesTo ms a c
  feeds_named s t service at feeds =
      let here = at_service s service at in
      let target =
      named_target names service.producer_for here.0.producer_for t here.3.producer_for feeds in
      (here.0.name, target.0, here.2, target.2, (here.0, here.1, refl, target.1))

  longrun_at : (t : ℕ) (c : List ℕ) → slice_get names t ≡ Some c → IsLongrun ms c
      → IsKind whole t Longrun
  longrun_at t c at_t longrun =
      let found = defined.each t c at_t in
      let own : IsDefined ms (λ m. m.kind ≡ Longrun) found.0.name =
      subst (IsLongrun ms) (sym found.3) longrun in
      (found.1, found.4, found.5.kind ∙ only_one ms are (λ m. m.kind ≡ Longrun) found.0 found.2 own)

  kind_at : (s : ℕ) (service : Service) → slice_get services s ≡ Some service
      → service.kind ≢ Bundle
  kind_at s service at bundle =
      let here = at_service s service at in
      let is : IsService ms here.0.name =
      (is_service here.0.name).0 (contains_at names s here.0.name here.2) in
      only_one ms are (λ m. m.kind ≢ Bundle) here.0 here.1 is (sym here.3.kind ∙ bundle)

  pub fits : HaveBound (length names) table → ((s : List ℕ) → HasTakenName ms s → ⊥)
      → FitTogether whole
  fits bounds free = record {
    services = defined.long;
    graph = mirrors.few;
    bounds = bounds;
    kinds = all_places (λ s. s.kind ≢ Bundle) services kind_at;
    fed = λ s t feeds.
        let named = feeds_named s t feeds.0 feeds.1 feeds.2 in
        let longruns = both_longruns ms right named.0 named.1 named.4 in (
          longrun_at t named.1 named.3 longruns.1,
          (mirrors.same s t).1 (
            named.0,
            named.1,
            named.2,
            named.3,
            (
              longrun_is_service ms named.0 longruns.0,
              longrun_is_service ms named.1 longruns.1,
              inr named.4,
            ),
          ),
        );
    apart = λ name there bundle. are_apart ms are free name ((is_service name).0 there)
        ((is_bundle name).0 bundle);
  }

  -- a database of these parts is that of the definitions
  pub is_database : IsInByteOrder names → IsInByteOrder (names_of table)
      → ((name a : List ℕ) (set : List Bool) (s : ℕ) → value_of table name ≡ Some set
      → slice_get names s ≡ Some a → Has set s ↔ StandsFor ms name a) → IsDatabaseOf ms whole
  is_database up bundles_up sets = record {
    names = record { order = up; same = is_service };
    services = λ m s there at.
        let found = defined.each s m.name at in
        let same : found.0 ≡ m =
        only_one ms are (λ x. found.0 ≡ x) m there (found.0, found.2, found.3, refl) in
        (found.1, found.4, subst (λ x. IsAsDefined names x found.1) same found.5);
    needs = λ a b s t at_s at_t. (
      λ need.
          let named = (mirrors.same s t).0 need in
          subst (λ x. NeedsNamed ms x b) (same_Some named.0 a (sym named.2 ∙ at_s))
          (subst (NeedsNamed ms named.0) (same_Some named.1 b (sym named.3 ∙ at_t)) named.4),
      λ related. (mirrors.same s t).1 (a, b, at_s, at_t, related),
    );
    bundles = record { order = bundles_up; same = is_bundle };
    sets = sets;
  }

  no_feed : (s : ℕ) (service : Service) → slice_get services s ≡ Some service
      → service.kind ≡ Oneshot → (p : Option ℕ) → service.producer_for ≡ p → p ≡ None
  no_feed s service at oneshot None is = refl
  no_feed s service at oneshot (Some t) is =
      let here = at_service s service at in
      let named = feeds_named s t service at is in
      let longruns = both_longruns ms right named.0 named.1 named.4 in
      let called : here.0.name ≡ named.0 = same_Some here.0.name named.0 (sym here.2 ∙ named.2) in
      let own : IsDefined ms (λ m. m.kind ≡ Longrun) here.0.name =
      subst (IsLongrun ms) (sym called) longruns.0 in
      let longrun = only_one ms are (λ m. m.kind ≡ Longrun) here.0 here.1 own in
      let bad : Oneshot ≡ Longrun = sym oneshot ∙ here.3.kind ∙ longrun in cc

  writable_at : (s : ℕ) (service : Service) → slice_get services s ≡ Some service
      → IsWritableService service
  writable_at s service at =
      let here = at_service s service at in
      let m = here.0 in
      let is = here.3 in
      let meaning : IsMeaning m = All-contains IsMeaning ms m are.each here.1 in
      record {
        oneshot =
            λ oneshot. (
              subst IsSome (sym is.text_up) (meaning.oneshot (sym is.kind ∙ oneshot)),
              no_feed s service at oneshot service.producer_for refl,
            );
        longrun = λ longrun.
            let other : m.kind ≢ Oneshot =
            λ e. (let bad : Longrun ≡ Oneshot = sym longrun ∙ is.kind ∙ e in cc) in
            let none = meaning.others other in
            (is.text_up ∙ none.0, is.text_down ∙ none.1);
        up = subst (λ o. IfSome o IsScript) (sym is.text_up) (script_from m.up meaning.up);
        down = subst (λ o. IfSome o IsScript) (sym is.text_down) (script_from m.down meaning.down);
      }

  pub is_writable : IsWritable whole
  is_writable = all_places IsWritableService services writable_at

-- what services write to are services
pub targets_known : (ms : List Meaning) (names : List (List ℕ))
    → ((name : List ℕ) → Contains names name ↔ IsService ms name)
    → ((s : List ℕ) → HasWrongType ms s → ⊥) → All (λ m. IfSome m.producer_for (Contains names)) ms
targets_known ms names is_service right =
    all_places (λ m. IfSome m.producer_for (Contains names)) ms
    (λ k m at. by m (places_contain ms k m at) m.producer_for refl)
  where
    by : (m : Meaning) → Contains ms m → (p : Option (List ℕ)) → m.producer_for ≡ p
        → IfSome p (Contains names)
    by m there None is = tt
    by m there (Some c) is =
        let longruns = both_longruns ms right m.name c (m, there, refl, is) in
        (is_service c).1 (longrun_is_service ms c longruns.1)

-- the name of a service is that of a definition
pub service_defined : (ms : List Meaning) (names : List (List ℕ))
    → ((name : List ℕ) → Contains names name ↔ IsService ms name) → (name : List ℕ)
    → Contains names name → (m : Meaning) × Contains ms m × (m.name ≡ name)
service_defined ms names is_service name there =
    let service = (is_service name).0 there in (service.0, service.1, service.2)
