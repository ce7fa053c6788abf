-- What the text of a database says: it can be spelled, ascends, is complete and has no cycle.
use Rattle.std.proofs.Common.{◌≡◌, ◌≢◌, ◌∙◌, ℕ, ◌<◌, zero, suc, Bool, true, List, [], ◌∷◌, ◌++◌}
use Rattle.std.proofs.Common.{length, map, get_or, slice_get, Some, None, Option, IfSome, IsSome}
use Rattle.std.proofs.Common.{All, Contains, unwrap_or, arith, refl, sym, ap, subst}
use Rattle.std.proofs.lemmas.Bool.{false≢true}
use Rattle.std.proofs.lemmas.List.{length-map, get_or-map, get_or_default}
use Rattle.std.proofs.lemmas.List.Elements.{All-contains, All-map, Contains-get_or}
use Rattle.std.proofs.lemmas.Option.{slice_get_within, slice_get-get_or, get_or_from_slice_get}
use Rattle.std.proofs.lemmas.Option.{same_Some}
use Rattle.std.specs.Option.{option_map}
use Rattle.rc_model.specs.declared.Kind.{Kind}
use Rattle.rc_model.specs.declared.Kind.TheVariants as kinds
use Rattle.rc_model.specs.Names.{IsName, IsInByteOrder, Has, IsAscending}
use Rattle.rc_model.specs.Graph.{Needs, EachNeedsNext}
use Rattle.rc_model.specs.Database.{Service, HasLimits, Database, IsDatabase, IsKind}
use Rattle.rc_db.specs.Service.{IsScript, IsWritableService}
use Rattle.rc_db.specs.Database.{IsWritable}
use Rattle.rc_dbtext.specs.Text.{OfLongrun, ServiceText, BundleText, IsBody, IsServiceText}
use Rattle.rc_dbtext.specs.Text.{IsBundleText, IsDbText}
use Rattle.rc_dbtext.specs.Meaning.{EachNeedsNextByName, FeedsWell, IsComplete, IsCyclic}
use Rattle.rc_dbtext.specs.Meaning.{IsLongrunName, IsSorted, NeedsByName, service_names}
use Rattle.rc_dbtext.specs.Spelling.{body_of, bundle_text, members, name_at, service_text}
use Rattle.rc_dbtext.specs.Spelling.{service_texts, text_of}
use Rattle.rc_model.proofs.ByteOrder.{one_place}
use Rattle.rc_model.proofs.Members.{place_of, contains_at}
use Rattle.rc_model.proofs.SetMembers.{has_within}
use Rattle.rc_dbtext.proofs.Naming.{mapped_member, member_mapped, names_ascend}
use Rattle.rc_dbtext.proofs.Bundling.{has_member, members_ascend}
use Rattle.rc_dbtext.proofs.Joining.{names_of_bundles}

-- the names of services one by one
pub named_texts : (names own : List (List ℕ)) (services : List Service) (lists : List (List ℕ))
    → length services ≡ length own → length lists ≡ length own
    → service_names (service_texts names own services lists) ≡ own
named_texts names [] services lists long rows = refl
named_texts names (name ∷ own) [] lists long rows = absurd (omega arith)
named_texts names (name ∷ own) (s ∷ services) [] long rows = absurd (omega arith)
named_texts names (name ∷ own) (s ∷ services) (row ∷ lists) long rows =
    ap (λ ns. name ∷ ns) (named_texts names own services lists (omega arith) (omega arith))

-- what stands at a place of the services
pub record IsAt (names own : List (List ℕ)) (services : List Service) (lists : List (List ℕ))
    (k : ℕ) (text : ServiceText) : Type 0 where
  pub name : List ℕ
  pub service : Service
  pub row : List ℕ
  pub named : slice_get own k ≡ Some name
  pub here : slice_get services k ≡ Some service
  pub listed : slice_get lists k ≡ Some row
  pub is : text ≡ service_text names name service row

pub text_at : (names own : List (List ℕ)) (services : List Service) (lists : List (List ℕ)) (k : ℕ)
    (d : ServiceText) → k < length (service_texts names own services lists)
    → IsAt names own services lists k (get_or (service_texts names own services lists) k d)
text_at names [] services lists k d within = absurd (omega arith)
text_at names (name ∷ own) [] lists k d within = absurd (omega arith)
text_at names (name ∷ own) (s ∷ services) [] k d within = absurd (omega arith)
text_at names (name ∷ own) (s ∷ services) (row ∷ lists) zero d within = record {
  name = name;
  service = s;
  row = row;
  named = refl;
  here = refl;
  listed = refl;
  is = refl;
}
text_at names (name ∷ own) (s ∷ services) (row ∷ lists) (suc k) d within =
    let rest = text_at names own services lists k d (omega arith) in
    record {
      name = rest.name;
      service = rest.service;
      row = rest.row;
      named = rest.named;
      here =
          rest.here;
      listed = rest.listed;
      is = rest.is;
    }

-- and it stands there
pub text_there : (names own : List (List ℕ)) (services : List Service) (lists : List (List ℕ))
    (k : ℕ) (name : List ℕ) (s : Service) (row : List ℕ) → slice_get own k ≡ Some name
    → slice_get services k ≡ Some s
    → slice_get lists k ≡ Some row → slice_get (service_texts names own services lists) k
    ≡ Some (service_text names name s row)
text_there names [] services lists k name s row named here listed =
    absurd (let bad : None ≡ Some name = named in cc)
text_there names (n ∷ own) [] lists k name s row named here listed =
    absurd (let bad : None ≡ Some s = here in cc)
text_there names (n ∷ own) (x ∷ services) [] k name s row named here listed =
    absurd (let bad : None ≡ Some row = listed in cc)
text_there names (n ∷ own) (x ∷ services) (r ∷ lists) zero name s row named here listed =
    let a : n ≡ name = same_Some n name named in
    let b : x ≡ s = same_Some x s here in
    let c : r ≡ row = same_Some r row listed in
    λ k. Some (service_text names (a k) (b k) (c k))
text_there names (n ∷ own) (x ∷ services) (r ∷ lists) (suc k) name s row named here listed =
    text_there names own services lists k name s row named here listed

some_script : (o : Option (List ℕ)) → IsSome o → IfSome o IsScript → IsScript (unwrap_or o [])
some_script None some is = absurd (false≢true some)
some_script (Some text) some is = is

module _ (d : Database) (is : IsDatabase d) (writable : IsWritable d) where
  abbrev pub texts : List ServiceText
  texts = service_texts d.names d.names d.services d.needs

  named : service_names texts ≡ d.names
  named = named_texts d.names d.names d.services d.needs is.fit.services is.fit.graph

  as_many : length texts ≡ length d.names
  as_many = sym (length-map texts (λ (s : ServiceText). s.head.name)) ∙ ap length named

  -- the service at a place is of these parts
  pub there : (k : ℕ) → k < length d.names → (name : List ℕ) × (s : Service) × (row : List ℕ)
      × (slice_get d.names k ≡ Some name) × (slice_get d.services k ≡ Some s)
      × (slice_get d.needs k ≡ Some row)
  there k within =
      let at = text_at d.names d.names d.services d.needs k
      (record {
        head = record {
          name = [];
          kind = kinds.Longrun;
          essential = true;
          limit_up = 0;
          limit_down = 0;
        };
        needs = [];
        body = OfLongrun None;
      }) (omega (arith, as_many)) in
      (at.name, at.service, at.row, at.named, at.here, at.listed)

  -- a row has needs
  need_in : (k : ℕ) (row : List ℕ) → slice_get d.needs k ≡ Some row → (t : ℕ) → Contains row t
      → Needs d.needs k t
  need_in k row listed t has =
      subst (λ (r : List ℕ). Contains r t) (sym (get_or_from_slice_get d.needs k row [] listed)) has

  pub below : (k : ℕ) (row : List ℕ) → slice_get d.needs k ≡ Some row
      → All (λ t. t < length d.names) row
  below k row listed j e within =
      let low : get_or row j e < length d.needs = is.needs.known k (get_or row j e)
      (need_in k row listed (get_or row j e)
      (j, within, get_or_default row j (get_or row j e) e within)) in
      omega (arith, is.fit.graph)

  name_there : (t : ℕ) → t < length d.names → Contains d.names (name_at d.names t)
  name_there t within = Contains-get_or d.names t [] within

  -- names at places below the end are names of services
  all_known : (ids : List ℕ) → All (λ t. t < length d.names) ids
      → All (Contains d.names) (map (name_at d.names) ids)
  all_known ids low =
      All-map (Contains d.names) (name_at d.names) ids
      (λ j e within. name_there (get_or ids j e) (low j e within))

  all_names : (ids : List ℕ) → All (λ t. t < length d.names) ids
      → All IsName (map (name_at d.names) ids)
  all_names ids low =
      All-map IsName (name_at d.names) ids
      (λ j e within. is.names.each (get_or ids j e) [] (low j e within))

  -- what is fed is needed, and a longrun
  fed_at : (k : ℕ) (s : Service) (t : ℕ) → slice_get d.services k ≡ Some s → s.producer_for ≡ Some t
      → IsKind d t kinds.Longrun × Needs d.needs k t
  fed_at k s t here feeds = is.fit.fed k t (s, here, feeds)

  pub fed_low : (k : ℕ) (s : Service) (t : ℕ) → slice_get d.services k ≡ Some s
      → s.producer_for ≡ Some t → t < length d.names
  fed_low k s t here feeds =
      let low : t < length d.needs = is.needs.known k t (fed_at k s t here feeds).1 in
      omega (arith, is.fit.graph)

  body_is : (k : ℕ) (s : Service) (o : Option ℕ) → slice_get d.services k ≡ Some s
      → s.producer_for ≡ o → IfSome (option_map (name_at d.names) o) IsName
  body_is k s None here fed = tt
  body_is k s (Some t) here fed = is.names.each t [] (fed_low k s t here fed)

  body_of_kind : (k : ℕ) (s : Service) (kind : Kind) → slice_get d.services k ≡ Some s
      → IsWritableService s → s.kind ≡ kind → kind ≢ kinds.Bundle
      → IsBody kind (body_of d.names kind s)
  body_of_kind k s kinds.Oneshot here can kind other =
      (refl, some_script s.text_up (can.oneshot kind).0 can.up, can.down)
  body_of_kind k s kinds.Longrun here can kind other = (refl, body_is k s s.producer_for here refl)
  body_of_kind k s kinds.Bundle here can kind other = absurd (other refl)

  -- each service of the text can be spelled
  each_service : All IsServiceText texts
  each_service k e within =
      let at = text_at d.names d.names d.services d.needs k e within in
      let inside : k < length d.services = slice_get_within d.services k at.service at.here in
      let it : get_or d.services k at.service ≡ at.service =
      get_or_from_slice_get d.services k at.service at.service at.here in
      let kind : at.service.kind ≢ kinds.Bundle =
      subst (λ (x : Service). x.kind ≢ kinds.Bundle) it (is.fit.kinds k at.service inside) in
      let limits : HasLimits at.service = subst HasLimits it (is.limits k at.service inside) in
      let can : IsWritableService at.service =
      subst IsWritableService it (writable k at.service inside) in
      let name : IsName at.name = subst IsName (get_or_from_slice_get d.names k at.name [] at.named)
      (is.names.each k [] (slice_get_within d.names k at.name at.named)) in
      subst IsServiceText (sym at.is) (record {
        head = record { name = name; kind = kind; limit_up = limits.0; limit_down = limits.1 };
        needs = all_names at.row (below k at.row at.listed);
        body = body_of_kind k at.service at.service.kind at.here can refl kind;
      })

  members_below : (k : ℕ) (e : List ℕ × List Bool) → k < length d.table
      → All (λ t. t < length d.names) (members (get_or d.table k e).1)
  members_below k e within j f inside =
      let set : List Bool = (get_or d.table k e).1 in
      let has : Has set (get_or (members set) j f) =
      has_member set (get_or (members set) j f) (Contains-get_or (members set) j f inside) in
      let bound : length set ≡ length d.names = is.fit.bounds k e within in
      omega (arith, has_within set (get_or (members set) j f) has)

  each_bundle : All IsBundleText (map (bundle_text d.names) d.table)
  each_bundle = All-map IsBundleText (bundle_text d.names) d.table (λ k e within. record {
    name =
        subst IsName (get_or-map (λ (b : List ℕ × List Bool). b.0) d.table k e [] within)
        (is.table.each k [] (omega (arith, length-map d.table (λ (b : List ℕ × List Bool). b.0))));
    members = all_names (members (get_or d.table k e).1) (members_below k e within);
  })

  pub can_be_spelled : IsDbText (text_of d)
  can_be_spelled = record {
    services = record { few = omega (arith, as_many, is.names.few); each = each_service };
    bundles = record {
      few = omega (arith, length-map d.table (bundle_text d.names), is.table.few);
      each = each_bundle;
    };
  }

  pub is_sorted : IsSorted (text_of d)
  is_sorted = record {
    services = subst IsInByteOrder (sym named) is.names.order;
    needs = λ k e within.
        let at = text_at d.names d.names d.services d.needs k e within in
        let row : get_or d.needs k [] ≡ at.row =
        get_or_from_slice_get d.needs k at.row [] at.listed in
        subst (λ (x : ServiceText). IsInByteOrder x.needs) (sym at.is)
        (names_ascend d.names at.row is.names.order (subst IsAscending row (is.needs.ascending k))
        (below k at.row at.listed));
    bundles = subst IsInByteOrder (names_of_bundles d.names d.table) is.table.order;
    members =
        All-map (λ (b : BundleText). IsInByteOrder b.members) (bundle_text d.names)
        d.table (λ k e within.
        names_ascend d.names (members (get_or d.table k e).1) is.names.order
        (members_ascend (get_or d.table k e).1) (members_below k e within));
  }

  is_longrun : (t : ℕ) → IsKind d t kinds.Longrun → IsLongrunName texts (name_at d.names t)
  is_longrun t (s, here, longrun) =
      let within : t < length d.names = let low : t < length d.services =
      slice_get_within d.services t s here in omega (arith, is.fit.services) in
      let found = there t within in
      let name : slice_get d.names t ≡ Some (name_at d.names t) =
      slice_get-get_or d.names t [] within in
      let text : ServiceText = service_text d.names (name_at d.names t) s found.2 in (
        text,
        contains_at texts t text
            (text_there d.names d.names d.services d.needs t (name_at d.names t) s found.2
            name here found.5),
        refl,
        longrun,
      )

  feeds_well : (k : ℕ) (s : Service) (row : List ℕ) (o : Option ℕ) → slice_get d.services k ≡ Some s
      → slice_get d.needs k ≡ Some row → s.producer_for ≡ o
      → FeedsWell texts (map (name_at d.names) row) (OfLongrun (option_map (name_at d.names) o))
  feeds_well k s row None here listed fed = tt
  feeds_well k s row (Some t) here listed fed =
      let both = fed_at k s t here fed in (
        is_longrun t both.0,
        mapped_member (name_at d.names) row t
            (subst (λ (r : List ℕ). Contains r t) (get_or_from_slice_get d.needs k row [] listed)
            both.1),
      )

  feeds_by_kind : (k : ℕ) (s : Service) (row : List ℕ) (kind : Kind)
      → slice_get d.services k ≡ Some s → slice_get d.needs k ≡ Some row
      → FeedsWell texts (map (name_at d.names) row) (body_of d.names kind s)
  feeds_by_kind k s row kinds.Oneshot here listed = tt
  feeds_by_kind k s row kinds.Longrun here listed =
      feeds_well k s row s.producer_for here listed refl
  feeds_by_kind k s row kinds.Bundle here listed =
      feeds_well k s row s.producer_for here listed refl

  pub is_complete : IsComplete (text_of d)
  is_complete = record {
    needs = λ k e within.
        let at = text_at d.names d.names d.services d.needs k e within in
        subst (λ (x : ServiceText). All (Contains (service_names texts)) x.needs) (sym at.is)
        (subst (λ (ns : List (List ℕ)). All (Contains ns) (map (name_at d.names) at.row))
        (sym named) (all_known at.row (below k at.row at.listed)));
    fed = λ k e within.
        let at = text_at d.names d.names d.services d.needs k e within in
        subst (λ (x : ServiceText). FeedsWell texts x.needs x.body) (sym at.is)
        (feeds_by_kind k at.service at.row at.service.kind at.here at.listed);
    members =
        All-map (λ (b : BundleText). All (Contains (service_names texts)) b.members)
        (bundle_text d.names) d.table (λ k e within.
        subst (λ (ns : List (List ℕ)). All (Contains ns)
        (map (name_at d.names) (members (get_or d.table k e).1))) (sym named)
        (all_known (members (get_or d.table k e).1) (members_below k e within)));
    apart =
        All-map (λ (b : BundleText). Contains (service_names texts) b.name → ⊥)
        (bundle_text d.names) d.table (λ k e within has.
        is.fit.apart (get_or d.table k e).0
        (subst (λ (ns : List (List ℕ)). Contains ns (get_or d.table k e).0) named has)
        (mapped_member (λ (b : List ℕ × List Bool). b.0) d.table (get_or d.table k e)
        (Contains-get_or d.table k e within)));
  }

  -- a need by name is one by place
  need_of : (a b : List ℕ) → NeedsByName texts a b
      → (s : ℕ) × (t : ℕ) × (slice_get d.names s ≡ Some a) × (slice_get d.names t ≡ Some b)
      × Needs d.needs s t
  need_of a b (text, has, name, lists_it) =
      let place = place_of texts text has in
      let within : place.0 < length texts = slice_get_within texts place.0 text place.1 in
      let at = text_at d.names d.names d.services d.needs place.0 text within in
      let same : text ≡ service_text d.names at.name at.service at.row =
      sym (get_or_from_slice_get texts place.0 text text place.1) ∙ at.is in
      let is_a : at.name ≡ a = sym (ap (λ (x : ServiceText). x.head.name) same) ∙ name in
      let found = member_mapped (name_at d.names) at.row b
      (subst (λ (x : ServiceText). Contains x.needs b) same lists_it) in
      let low : found.0 < length d.names = All-contains (λ t. t < length d.names) at.row found.0
      (below place.0 at.row at.listed) found.1 in (
        place.0,
        found.0,
        at.named ∙ ap Some is_a,
        slice_get-get_or d.names found.0 [] low
            ∙ ap Some found.2,
        need_in place.0 at.row at.listed found.0 found.1,
      )

  chain : (between : List (List ℕ)) (a end : List ℕ) (s e : ℕ) → slice_get d.names s ≡ Some a
      → slice_get d.names e ≡ Some end → EachNeedsNextByName texts (a ∷ (between ++ end ∷ []))
      → (ids : List ℕ) × EachNeedsNext d.needs (s ∷ (ids ++ e ∷ []))
  chain [] a end s e at_s at_e each =
      let found = need_of a end each.0 in
      let first : found.0 ≡ s = one_place d.names a found.0 s is.names.order found.2 at_s in
      let last : found.1 ≡ e = one_place d.names end found.1 e is.names.order found.3 at_e in
      ([], (subst (λ n. Needs d.needs n e) first (subst (Needs d.needs found.0) last found.4), tt))
  chain (b ∷ between) a end s e at_s at_e each =
      let found = need_of a b each.0 in
      let first : found.0 ≡ s = one_place d.names a found.0 s is.names.order found.2 at_s in
      let rest = chain between b end found.1 e found.3 at_e each.1 in
      (found.1 ∷ rest.0, (subst (λ n. Needs d.needs n found.1) first found.4, rest.1))

  start : (between : List (List ℕ)) (a end : List ℕ)
      → EachNeedsNextByName texts (a ∷ (between ++ end ∷ []))
      → (s : ℕ) × (slice_get d.names s ≡ Some a)
  start [] a end each = let found = need_of a end each.0 in (found.0, found.2)
  start (b ∷ between) a end each = let found = need_of a b each.0 in (found.0, found.2)

  pub has_no_cycle : IsCyclic texts → ⊥
  has_no_cycle (name, between, each) =
      let from = start between name name each in
      let round = chain between name name from.0 from.0 from.1 from.1 each in
      is.acyclic from.0 round
