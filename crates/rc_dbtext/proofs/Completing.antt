-- When a text is complete, said of its services and of its bundles.
use Rattle.std.proofs.Common.{◌≡◌, ◌∙◌, ◌<◌, ◌↔◌, All, Contains, ℕ, Bool, IsTrue, List, [], length}
use Rattle.std.proofs.Common.{get_or, slice_get, Some, arith, sym, ap, subst}
use Rattle.std.proofs.lemmas.List.{get_or-map, length-map}
use Rattle.std.proofs.lemmas.Option.{slice_get_within, slice_get-get_or, get_or_from_slice_get}
use Rattle.rc_model.specs.declared.Kind.TheVariants as kinds
use Rattle.rc_model.specs.Names.{IsInByteOrder}
use Rattle.rc_dbtext.specs.Text.{ServiceText, BundleText, DbText}
use Rattle.rc_dbtext.specs.Meaning.{IsComplete, IsLongrunName, service_names}
use Rattle.rc_dbtext.specs.Parts.{AreBundlesComplete, AreKnown, AreServicesComplete, IsApart}
use Rattle.rc_dbtext.specs.Parts.{IsKnown}
use Rattle.rc_dbtext.specs.Spelling.{name_at}
use Rattle.rc_model.proofs.ByteOrder.{one_place}
use Rattle.rc_model.proofs.Members.{place_of}

-- both halves together, over the names of the services
pub own_complete : (t : DbText) → AreServicesComplete (service_names t.services) t.services
    → AreBundlesComplete (service_names t.services) t.bundles → IsComplete t
unfolding IsKnown AreKnown IsApart
own_complete t services bundles =
    record { needs = services.0; fed = services.1; members = bundles.0; apart = bundles.1 }

pub own_halves : (t : DbText) → IsComplete t
    → AreServicesComplete (service_names t.services) t.services
    × AreBundlesComplete (service_names t.services) t.bundles
unfolding IsKnown AreKnown IsApart
own_halves t complete = ((complete.needs, complete.fed), (complete.members, complete.apart))

-- needs that are names are known
pub known_needs : (names : List (List ℕ)) (services own : List ServiceText) → services ≡ own
    → All (λ s. All (Contains names) s.needs) services → All (λ s. AreKnown names s.needs) own
unfolding IsKnown AreKnown
known_needs names services own same known =
    let P : List ServiceText → Type 0 = λ ss. All (λ s. All (Contains names) s.needs) ss in
    subst P same known

module _ (t : DbText) (names : List (List ℕ)) (services : List ServiceText)
    (bundles : List BundleText) (named : names ≡ service_names t.services)
    (own : services ≡ t.services) (listed : bundles ≡ t.bundles) where
  pub complete_from : AreServicesComplete names services → AreBundlesComplete names bundles
      → IsComplete t
  complete_from of_services of_bundles =
      own_complete t
      (subst (λ (ns : List (List ℕ)). AreServicesComplete ns t.services) named
      (subst (AreServicesComplete names) own of_services))
      (subst (λ (ns : List (List ℕ)). AreBundlesComplete ns t.bundles) named
      (subst (AreBundlesComplete names) listed of_bundles))

  pub complete_services : IsComplete t → AreServicesComplete names services
  complete_services complete =
      subst (AreServicesComplete names) (sym own)
      (subst (λ (ns : List (List ℕ)). AreServicesComplete ns t.services) (sym named)
      (own_halves t complete).0)

  pub complete_bundles : IsComplete t → AreBundlesComplete names bundles
  complete_bundles complete =
      subst (AreBundlesComplete names) (sym listed)
      (subst (λ (ns : List (List ℕ)). AreBundlesComplete ns t.bundles) (sym named)
      (own_halves t complete).1)

-- the service of a name says whether it is that of a longrun
pub longrun_iff : (names : List (List ℕ)) (services : List ServiceText) (name : List ℕ) (id : ℕ)
    (item : ServiceText) (told : Bool) → names ≡ service_names services → IsInByteOrder names
    → slice_get names id ≡ Some name
    → item ≡ get_or services id item → (IsTrue told ↔ (item.head.kind ≡ kinds.Longrun))
    → IsTrue told ↔ IsLongrunName services name
longrun_iff names services name id item told named order at here says =
    let as_many : length names ≡ length services =
    ap length named ∙ length-map services (λ (s : ServiceText). s.head.name) in
    let within : id < length services = let low : id < length names =
    slice_get_within names id name at in omega arith in
    let its_name : item.head.name ≡ name =
    ap (λ (s : ServiceText). s.head.name) here
    ∙ sym (get_or-map (λ (s : ServiceText). s.head.name) services id item [] within)
    ∙ ap (λ (ns : List (List ℕ)). name_at ns id) (sym named)
    ∙ get_or_from_slice_get names id name [] at in (
      λ is. (item, (id, within, sym here), its_name, says.0 is),
      λ (s, has, is_named, longrun).
          let place = place_of services s has in
          let inside : place.0 < length services = slice_get_within services place.0 s place.1 in
          let other : slice_get names place.0 ≡ Some name =
          slice_get-get_or names place.0 [] (omega arith)
          ∙ ap (λ (n : List ℕ). Some n) (ap (λ (ns : List (List ℕ)). name_at ns place.0) named
          ∙ get_or-map (λ (x : ServiceText). x.head.name) services place.0 s [] inside
          ∙ ap (λ (x : ServiceText). x.head.name)
          (get_or_from_slice_get services place.0 s s place.1) ∙ is_named) in
          let same : place.0 ≡ id = one_place names name place.0 id order other at in
          let it : s ≡ item = sym (get_or_from_slice_get services place.0 s item place.1)
          ∙ ap (λ (k : ℕ). get_or services k item) same ∙ sym here in
          says.1 (ap (λ (x : ServiceText). x.head.kind) (sym it) ∙ longrun),
    )
