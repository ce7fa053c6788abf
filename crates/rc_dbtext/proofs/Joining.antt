-- The parts that a text gives fit together, and give the text back.
use Rattle.std.proofs.Common.{◌≡◌, ◌≢◌, ◌∙◌, ℕ, ◌<◌, ◌+◌, Bool, List, [], ◌∷◌, ◌++◌, length, map}
use Rattle.std.proofs.Common.{take, get_or, slice_get, Some, None, All, Contains, arith, refl, sym}
use Rattle.std.proofs.Common.{ap, subst}
use Rattle.std.proofs.lemmas.List.{length-map, length-take, get_or-map, get_or-take, map_push}
use Rattle.std.proofs.lemmas.List.{take-map, take_more}
use Rattle.std.proofs.lemmas.List.Elements.{All-contains, All-push}
use Rattle.std.proofs.lemmas.Option.{slice_get_within, slice_get-get_or, get_or_from_slice_get}
use Rattle.std.specs.List.{AllZip}
use Rattle.rc_model.specs.declared.Kind.TheVariants as kinds
use Rattle.rc_model.specs.Names.{IsBefore, IsInByteOrder}
use Rattle.rc_model.specs.Graph.{Needs, AreNeeds}
use Rattle.rc_model.specs.Database.{Service, Bundles, HaveBound, names_of, Database, AreApart}
use Rattle.rc_model.specs.Database.{Feeds, FitTogether, IsKind}
use Rattle.rc_db.specs.Service.{IsWritableService}
use Rattle.rc_dbtext.specs.Text.{Body, OfLongrun, OfOneshot, ServiceText, BundleText, DbText}
use Rattle.rc_dbtext.specs.Text.{IsDbText}
use Rattle.rc_dbtext.specs.Meaning.{FeedsWell, IsComplete, IsLongrunName, bundle_names}
use Rattle.rc_dbtext.specs.Meaning.{service_names}
use Rattle.rc_dbtext.specs.Parts.{AreNeedsOf, FeedsKnown, IsServiceOf}
use Rattle.rc_dbtext.specs.Spelling.{bundle_text, head_of, members, name_at, service_text}
use Rattle.rc_dbtext.specs.Spelling.{service_texts, text_of}
use Rattle.rc_dbtext.proofs.Zips.{zip_at, zip_length}
use Rattle.rc_model.proofs.ByteOrder.{one_place}
use Rattle.rc_model.proofs.Members.{place_of}
use Rattle.rc_dbtext.proofs.Naming.{mapped_member, member_mapped}
use Rattle.rc_dbtext.proofs.Drafting.{no_service, row_at}

one_text : (names : List (List ℕ)) (text : ServiceText) (name : List ℕ) (s : Service)
    (needs : List ℕ) → IsServiceOf names text s → name ≡ text.head.name
    → map (name_at names) needs ≡ text.needs → service_text names name s needs ≡ text
one_text names text name s needs is named listed =
    let head : head_of name s ≡ text.head = ap (λ n. head_of n s) named ∙ is.head in
    λ k. record { head = head k; needs = listed k; body = is.body k }

-- services one by one, with their names and what they need, are those of the text
pub zipped : (names : List (List ℕ)) (texts : List ServiceText) (own : List (List ℕ))
    (services : List Service) (lists : List (List ℕ)) → own ≡ service_names texts
    → AllZip (IsServiceOf names) texts services
    → map (map (name_at names)) lists ≡ map (λ s. s.needs) texts
    → service_texts names own services lists ≡ texts
zipped names [] [] services lists named each needs = refl
zipped names [] (name ∷ own) services lists named each needs =
    absurd (omega (arith, ap length named))
zipped names (text ∷ texts) [] services lists named each needs =
    absurd (omega (arith, ap length named))
zipped names (text ∷ texts) (name ∷ own) [] lists named each needs = absurd each
zipped names (text ∷ texts) (name ∷ own) (s ∷ services) [] named each needs =
    absurd (omega (arith, ap length needs))
zipped names (text ∷ texts) (name ∷ own) (s ∷ services) (row ∷ lists) named each needs =
    let first : name ≡ text.head.name = cc in
    let rest : own ≡ service_names texts = cc in
    let row_is : map (name_at names) row ≡ text.needs = cc in
    let rows_are : map (map (name_at names)) lists ≡ map (λ s. s.needs) texts = cc in
    let one : service_text names name s row ≡ text =
    one_text names text name s row each.0 first row_is in
    let more : service_texts names own services lists ≡ texts =
    zipped names texts own services lists rest each.1 rows_are in
    λ k. one k ∷ more k

pub names_of_bundles : (names : List (List ℕ)) (table : Bundles)
    → names_of table ≡ bundle_names (map (bundle_text names) table)
names_of_bundles names [] = refl
names_of_bundles names (bundle ∷ table) = ap (λ ns. bundle.0 ∷ ns) (names_of_bundles names table)

-- the names of the bundles so far are before the next one
pub before_next : (names : List (List ℕ)) (table : Bundles) (forms : List BundleText) (i : ℕ)
    (form : BundleText) → IsInByteOrder (bundle_names forms) → i < length forms
    → form ≡ get_or forms i form
    → map (bundle_text names) table ≡ take i forms
    → All (λ other. IsBefore other form.name) (names_of table)
before_next names table forms i form order within is so_far = λ k d inside.
    let own : List (List ℕ) = bundle_names forms in
    let same : names_of table ≡ take i own = names_of_bundles names table ∙ ap bundle_names so_far
    ∙ sym (take-map (λ (b : BundleText). b.name) i forms) in
    let low : k < i = omega (arith, ap length same, length-take i own) in
    let all : i < length own = omega (arith, length-map forms (λ (b : BundleText). b.name)) in
    let first : get_or (names_of table) k d ≡ get_or own k d =
    ap (λ (ns : List (List ℕ)). get_or ns k d) same ∙ get_or-take i own k d low in
    let second : form.name ≡ get_or own i d = ap (λ (b : BundleText). b.name) is
    ∙ sym (get_or-map (λ (b : BundleText). b.name) forms i form d within) in
    subst (λ (n : List ℕ). IsBefore n form.name) (sym first)
    (subst (IsBefore (get_or own k d)) (sym second) (order k i d low all))

-- one bundle more
pub bundled_one : (names : List (List ℕ)) (old new : Bundles) (forms : List BundleText) (i : ℕ)
    (form : BundleText) (set : List Bool) → i < length forms → form ≡ get_or forms i form
    → map (bundle_text names) old ≡ take i forms → new ≡ old ++ (form.name, set) ∷ []
    → map (name_at names) (members set) ≡ form.members
    → map (bundle_text names) new ≡ take (i + 1) forms
bundled_one names old new forms i form set within is so_far added listed =
    let one : bundle_text names (form.name, set) ≡ form =
    λ k. record { name = form.name; members = listed k } in
    ap (map (bundle_text names)) added ∙ map_push (bundle_text names) old (form.name, set)
    ∙ ap (λ (bs : List BundleText). bs ++ bundle_text names (form.name, set) ∷ []) so_far
    ∙ ap (λ (b : BundleText). take i forms ++ b ∷ []) (one ∙ is)
    ∙ sym (take_more forms i form within)

pub below_one : (bound : ℕ) (old new : Bundles) (name : List ℕ) (set : List Bool)
    → HaveBound bound old → new ≡ old ++ (name, set) ∷ [] → length set ≡ bound → HaveBound bound new
below_one bound old new name set below added fits_in =
    let P : Bundles → Type 0 = λ table. HaveBound bound table in
    subst P (sym added)
    (All-push (λ (b : List ℕ × List Bool). length b.1 ≡ bound) old (name, set) below fits_in)

-- what is fed is among the names
feeds_known : (names : List (List ℕ)) (services : List ServiceText) (needs : List (List ℕ))
    (body : Body) → names ≡ service_names services → FeedsWell services needs body
    → FeedsKnown names body
feeds_known names services needs (OfOneshot up down) named well = tt
feeds_known names services needs (OfLongrun None) named well = tt
feeds_known names services needs (OfLongrun (Some name)) named ((s, has, is, longrun), needed) =
    subst (λ (ns : List (List ℕ)). Contains ns name) (sym named)
    (subst (Contains (service_names services)) is
    (mapped_member (λ (x : ServiceText). x.head.name) services s has))

pub all_feed_known : (names : List (List ℕ)) (services : List ServiceText)
    → names ≡ service_names services → All (λ s. FeedsWell services s.needs s.body) services
    → All (λ s. FeedsKnown names s.body) services
all_feed_known names services named well = λ k d within. feeds_known names services
    (get_or services k d).needs (get_or services k d).body named (well k d within)

module _ (t : DbText) (names : List (List ℕ)) (services : List Service) (lists : List (List ℕ))
    (table : Bundles)
    (is : IsDbText t) (complete : IsComplete t) (named : names ≡ service_names t.services)
    (order : IsInByteOrder names)
    (each : AllZip (IsServiceOf names) t.services services)
    (needs : AreNeedsOf names t.services lists) (are : AreNeeds lists)
    (bundles : map (bundle_text names) table ≡ t.bundles)
    (below : HaveBound (length names) table) where
  abbrev pub made : Database
  made = record { names = names; services = services; needs = lists; table = table }

  as_many : length services ≡ length t.services
  as_many = sym (zip_length (IsServiceOf names) t.services services each)

  as_many_names : length names ≡ length t.services
  as_many_names = ap length named ∙ length-map t.services (λ (s : ServiceText). s.head.name)

  -- the service at a place is that of the text there
  at_place : (k : ℕ) (d : Service) → k < length services
      → IsServiceOf names (get_or t.services k no_service) (get_or services k d)
  at_place k d within =
      zip_at (IsServiceOf names) t.services services k no_service d each (omega (arith, as_many))

  kind_at : (k : ℕ) (d : Service) → k < length services
      → (get_or services k d).kind ≡ (get_or t.services k no_service).head.kind
  kind_at k d within = ap (λ h. h.kind) (at_place k d within).head

  pub all_writable : All IsWritableService services
  all_writable k d within = (at_place k d within).writable

  all_kinds : All (λ s. s.kind ≢ kinds.Bundle) services
  all_kinds k d within bundle = (is.services.each k no_service (omega (arith, as_many))).head.kind
      (sym (kind_at k d within) ∙ bundle)

  longrun_at : (name : List ℕ) (u : ℕ) → slice_get names u ≡ Some name
      → IsLongrunName t.services name → IsKind made u kinds.Longrun
  longrun_at name u at (text, has, is_named, longrun) =
      let place = place_of t.services text has in
      let within_t : place.0 < length t.services =
      slice_get_within t.services place.0 text place.1 in
      let its_name : slice_get names place.0 ≡ Some name =
      slice_get-get_or names place.0 [] (omega (arith, as_many_names))
      ∙ ap Some (ap (λ ns. name_at ns place.0) named ∙ get_or-map (λ (s : ServiceText). s.head.name)
      t.services place.0 text [] within_t
      ∙ ap (λ (s : ServiceText). s.head.name)
      (get_or_from_slice_get t.services place.0 text text place.1) ∙ is_named) in
      let same : place.0 ≡ u = one_place names name place.0 u order its_name at in
      let inside : u < length services = omega (arith, as_many, same) in
      let d : Service = record {
        kind = kinds.Longrun;
        essential = text.head.essential;
        limit_up = 0;
        limit_down = 0;
        text_up = None;
        text_down = None;
        producer_for = None;
      } in (
        get_or services u d,
        slice_get-get_or services u d inside,
        kind_at u d inside ∙ ap (λ (k : ℕ). (get_or t.services k no_service).head.kind) (sym same)
            ∙ ap (λ (s : ServiceText). s.head.kind)
            (get_or_from_slice_get t.services place.0 text no_service place.1) ∙ longrun,
      )

  needed_at : (name : List ℕ) (s u : ℕ) → s < length services → slice_get names u ≡ Some name
      → Contains (get_or t.services s no_service).needs name → Needs lists s u
  needed_at name s u within at has =
      let row = row_at names t.services lists named needs s
      (omega (
        arith,
        as_many,
        length-map lists (map (name_at names)),
        length-map t.services (λ (x : ServiceText). x.needs),
        ap length needs,
      )) in
      let found = member_mapped (name_at names) (get_or lists s []) name
      (subst (λ ns. Contains ns name) (sym row.0) has) in
      let low : found.0 < length lists = are.known s found.0 found.1 in
      let its_name : slice_get names found.0 ≡ Some name =
      slice_get-get_or names found.0 []
      (omega (
        arith,
        as_many_names,
        length-map lists (map (name_at names)),
        length-map t.services (λ (x : ServiceText). x.needs),
        ap length needs,
      )) ∙ ap Some found.2 in
      subst (Needs lists s) (one_place names name found.0 u order its_name at) found.1

  all_fed : (s u : ℕ) → Feeds made s u → IsKind made u kinds.Longrun × Needs lists s u
  all_fed s u (service, at, feeds) =
      let within : s < length services = slice_get_within services s service at in
      let it : get_or services s service ≡ service =
      get_or_from_slice_get services s service service at in
      let fed =
      (at_place s service within).fed u (ap (λ (x : Service). x.producer_for) it ∙ feeds) in
      let well : FeedsWell t.services (get_or t.services s no_service).needs
      (get_or t.services s no_service).body = complete.fed s no_service (omega (arith, as_many)) in
      let both : IsLongrunName t.services fed.0 × Contains (get_or t.services s no_service).needs
      fed.0 = subst (FeedsWell t.services (get_or t.services s no_service).needs) fed.1 well in
      (longrun_at fed.0 u fed.2 both.0, needed_at fed.0 s u within fed.2 both.1)

  all_apart : AreApart names table
  all_apart name has in_table =
      let listed : Contains (bundle_names t.bundles) name = subst (λ ns. Contains ns name)
      (names_of_bundles names table ∙ ap bundle_names bundles) in_table in
      let found = member_mapped (λ (b : BundleText). b.name) t.bundles name listed in
      All-contains (λ b. Contains (service_names t.services) b.name → ⊥) t.bundles found.0
      complete.apart found.1
      (subst (λ ns. Contains ns found.0.name) named (subst (Contains names) (sym found.2) has))

  pub fits : FitTogether made
  fits = record {
    services = as_many ∙ sym as_many_names;
    graph =
        sym (length-map lists (map (name_at names))) ∙ ap length needs
        ∙ length-map t.services (λ (x : ServiceText). x.needs) ∙ sym as_many_names;
    bounds = below;
    kinds = all_kinds;
    fed = all_fed;
    apart = all_apart;
  }

  pub says : text_of made ≡ t
  says =
      let all : service_texts names names services lists ≡ t.services =
      zipped names t.services names services lists named each needs in
      λ k. record { services = all k; bundles = bundles k }
