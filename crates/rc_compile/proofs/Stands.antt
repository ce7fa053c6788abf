-- What names stand for, by the sets of bundles that reach one another.
use Rattle.std.proofs.Common.{◌≡◌, ◌∙◌, ℕ, ◌↔◌, inl, inr, Bool, List, [], ◌∷◌, ◌++◌, slice_get}
use Rattle.std.proofs.Common.{Some, None, Contains, refl, sym, ap, subst}
use Rattle.std.proofs.lemmas.Option.{same_Some}
use Rattle.rc_model.specs.Names.{IsInByteOrder}
use Rattle.rc_model.specs.Graph.{EachNeedsNext, UpFrom}
use Rattle.rc_graph.proofs.Paths.{up_is_closed}
use Rattle.rc_source.specs.Meaning.{Meaning, AreMeanings}
use Rattle.rc_compile.specs.Along.{EachNext, LeadsTo}
use Rattle.rc_compile.specs.Pipelines.{IsService, IsLongrun, WritesTo, ReadsFrom, IsLastConsumer}
use Rattle.rc_compile.specs.Pipelines.{InPipelineOf, NamesPipeline}
use Rattle.rc_compile.specs.Standing.{IsBundle, HasContent, HasInPipeline, HoldsName, StandsFor}
use Rattle.rc_compile.specs.Mirror.{Mirrors}
use Rattle.rc_compile.specs.Joining.{HasAlong}
use Rattle.rc_compile.specs.Sets.{ArePiped, AreApart, AreSetsOf, HasPiped}
use Rattle.rc_model.proofs.Members.{contains_at, place_of}
use Rattle.rc_compile.proofs.Joins.{up_from_needs}
use Rattle.rc_compile.proofs.Meanings.{only_one, holder_is_bundle, longrun_is_service}

-- a step, and what leads on from there
pub step_leads : (R : List ℕ → List ℕ → Type 0) (a b c : List ℕ) → R a b → LeadsTo R b c
    → LeadsTo R a c
step_leads R a b c h (inl same) = inr ([], (subst (R a) same h, tt))
step_leads R a b c h (inr path) = inr (b ∷ path.0, (h, path.1))

-- a place has one name
one_name : (names : List (List ℕ)) (s : ℕ) (a b : List ℕ) → slice_get names s ≡ Some a
    → slice_get names s ≡ Some b → a ≡ b
one_name names s a b at_a at_b = same_Some a b (sym at_a ∙ at_b)

module _ (ms : List Meaning) (services bundles graph : List (List ℕ)) (own : List (List Bool))
    (are : AreMeanings ms) (apart : AreApart ms)
    (is_bundle : (name : List ℕ) → Contains bundles name ↔ IsBundle ms name)
    (mirrors : Mirrors (HasContent ms) bundles bundles graph)
    (held : AreSetsOf (HoldsName ms) bundles services own)
    (a : List ℕ) (s : ℕ) (at_s : slice_get services s ≡ Some a) where
  -- along the bundles in bundles a name leads to what the last of them leads to
  up_leads : (xs : List ℕ) (b t : ℕ) (name : List ℕ) → slice_get bundles b ≡ Some name
      → EachNeedsNext graph (b ∷ (xs ++ t ∷ []))
      → ((last : List ℕ) → slice_get bundles t ≡ Some last → LeadsTo (HoldsName ms) last a)
      → LeadsTo (HoldsName ms) name a
  up_leads [] b t name at_b path leads =
      let named = (mirrors.same b t).0 path.0 in
      let content : HasContent ms name named.1 =
      subst (λ n. HasContent ms n named.1) (one_name bundles b named.0 name named.2 at_b) named.4 in
      step_leads (HoldsName ms) name named.1 a (inl content) (leads named.1 named.3)
  up_leads (x ∷ xs) b t name at_b path leads =
      let named = (mirrors.same b x).0 path.0 in
      let content : HasContent ms name named.1 =
      subst (λ n. HasContent ms n named.1) (one_name bundles b named.0 name named.2 at_b) named.4 in
      step_leads (HoldsName ms) name named.1 a (inl content)
      (up_leads xs x t named.1 named.3 path.1 leads)

  along_leads : (b : ℕ) (name : List ℕ) → slice_get bundles b ≡ Some name → HasAlong graph own b s
      → LeadsTo (HoldsName ms) name a
  along_leads b name at_b (t, inl same, has) =
      let at_t : slice_get bundles t ≡ Some name = ap (slice_get bundles) same ∙ at_b in
      step_leads (HoldsName ms) name a a ((held t s name a at_t at_s).0 has) (inl refl)
  along_leads b name at_b (t, inr (x, same, (xs, path)), has) =
      up_leads xs b t name at_b (subst (λ y. EachNeedsNext graph (y ∷ (xs ++ t ∷ []))) same path)
      (λ last at_t. step_leads (HoldsName ms) last a a ((held t s last a at_t at_s).0 has)
      (inl refl))

  -- and what a name leads to through bundles is reached from its place
  begins_bundle : (xs : List (List ℕ)) (x : List ℕ) → EachNext (HoldsName ms) (x ∷ (xs ++ a ∷ []))
      → IsBundle ms x
  begins_bundle [] x path = holder_is_bundle ms x a are path.0
  begins_bundle (y ∷ ys) x path = holder_is_bundle ms x y are path.0

  leads_along : (xs : List (List ℕ)) (b : ℕ) (name : List ℕ) → slice_get bundles b ≡ Some name
      → EachNext (HoldsName ms) (name ∷ (xs ++ a ∷ [])) → HasAlong graph own b s
  leads_along [] b name at_b path = (b, inl refl, (held b s name a at_b at_s).1 path.0)
  leads_along (x ∷ xs) b name at_b path =
      let bundle = begins_bundle xs x path.1 in
      let place = place_of bundles x ((is_bundle x).1 bundle) in
      elim path.0 [
        | inl content ↦
            let rest = leads_along xs place.0 x place.1 path.1 in (
              rest.0,
              up_from_needs graph b place.0 rest.0
                  ((mirrors.same b place.0).1 (name, x, at_b, place.1, content)) rest.1,
              rest.2,
            )
        | inr piped ↦ absurd (apart x (longrun_is_service ms x piped.3.0) bundle)
      ]

  pub stands_along : (b : ℕ) (name : List ℕ) → IsService ms a → slice_get bundles b ≡ Some name
      → HasAlong graph own b s ↔ StandsFor ms name a
  stands_along b name service at_b = (
    λ along. (service, along_leads b name at_b along),
    λ stands. elim stands.1 [
      | inl same ↦
          let bundle : IsBundle ms name = (is_bundle name).0 (contains_at bundles b name at_b) in
          absurd (apart name (subst (IsService ms) (sym same) service) bundle)
      | inr path ↦ leads_along path.0 b name at_b path.1
    ],
  )

module _ (ms : List Meaning) (services readers : List (List ℕ)) (up : IsInByteOrder services)
    (are : AreMeanings ms) (piped : ArePiped ms)
    (is_service : (name : List ℕ) → Contains services name ↔ IsService ms name)
    (mirrors : Mirrors (ReadsFrom ms) services services readers)
    (m : Meaning) (there : Contains ms m) (name : List ℕ) (ends : NamesPipeline m name) where
  -- the last consumer writes to none
  writes_none : (c : List ℕ) → WritesTo ms m.name c → ⊥
  writes_none c writes =
      let feeds : m.producer_for ≡ Some c =
      only_one ms are (λ x. x.producer_for ≡ Some c) m there writes in
      let bad : None ≡ Some c = sym ends.ends ∙ feeds in cc

  is_last : IsLastConsumer ms m.name m.name
  is_last = (inl refl, writes_none)

  -- whoever leads to it has it as the last consumer
  pub leads_within : (a : List ℕ) → IsLongrun ms a → LeadsTo (WritesTo ms) a m.name
      → InPipelineOf ms m.name a
  leads_within a longrun leads = (longrun, (m.name, is_last, (leads, writes_none)))

  within_leads : (a : List ℕ) → InPipelineOf ms m.name a → LeadsTo (WritesTo ms) a m.name
  within_leads a (longrun, (last, (inl same, stops), (leads, stops_too))) =
      subst (LeadsTo (WritesTo ms) a) (sym same) leads
  within_leads a (longrun, (last, (inr ([], path), stops), (leads, stops_too))) =
      absurd (writes_none last path.0)
  within_leads a (longrun, (last, (inr (x ∷ xs, path), stops), (leads, stops_too))) =
      absurd (writes_none x path.0)

  -- a walk back comes to what leads to where it began
  back_leads : (xs : List ℕ) (i s : ℕ) (b a : List ℕ) → slice_get services i ≡ Some b
      → slice_get services s ≡ Some a → EachNeedsNext readers (i ∷ (xs ++ s ∷ []))
      → LeadsTo (WritesTo ms) b m.name
      → IsLongrun ms a × LeadsTo (WritesTo ms) a m.name
  back_leads [] i s b a at_i at_s path leads =
      let named = (mirrors.same i s).0 path.0 in
      let reads : ReadsFrom ms b a = subst (λ x. ReadsFrom ms x a)
      (one_name services i named.0 b named.2 at_i)
      (subst (ReadsFrom ms named.0) (one_name services s named.1 a named.3 at_s) named.4) in
      let writes = (piped.both a b).1 reads in
      ((piped.longruns a b writes).0, step_leads (WritesTo ms) a b m.name writes leads)
  back_leads (x ∷ xs) i s b a at_i at_s path leads =
      let named = (mirrors.same i x).0 path.0 in
      let reads : ReadsFrom ms b named.1 =
      subst (λ y. ReadsFrom ms y named.1) (one_name services i named.0 b named.2 at_i) named.4 in
      back_leads xs x s named.1 a named.3 at_s path.1
      (step_leads (WritesTo ms) named.1 b m.name ((piped.both named.1 b).1 reads) leads)

  -- and it comes to all that leads there
  leads_back : (xs : List (List ℕ)) (a : List ℕ) (s : ℕ) → slice_get services s ≡ Some a
      → EachNext (WritesTo ms) (a ∷ (xs ++ m.name ∷ []))
      → UpFrom readers (λ i. slice_get services i ≡ Some m.name) s
  leads_back [] a s at_s path =
      let longruns = piped.longruns a m.name path.0 in
      let place =
      place_of services m.name ((is_service m.name).1 (longrun_is_service ms m.name longruns.1)) in
      inr (
        place.0,
        place.1,
        (
          [],
          (
            (mirrors.same place.0 s).1 (m.name, a, place.1, at_s, (piped.both a m.name).0 path.0),
            tt,
          ),
        ),
      )
  leads_back (x ∷ xs) a s at_s path =
      let longruns = piped.longruns a x path.0 in
      let place = place_of services x ((is_service x).1 (longrun_is_service ms x longruns.1)) in
      let rest = leads_back xs x place.0 place.1 path.1 in
      up_is_closed readers (λ i. slice_get services i ≡ Some m.name) place.0 s rest
      ((mirrors.same place.0 s).1 (x, a, place.1, at_s, (piped.both a x).0 path.0))

  pub piped_within : (s : ℕ) (a : List ℕ) → slice_get services s ≡ Some a
      → UpFrom readers (λ i. slice_get services i ≡ Some m.name) s ↔ InPipelineOf ms m.name a
  piped_within s a at_s = (
    λ from. elim from [
      | inl here ↦
          let same : m.name ≡ a = one_name services s m.name a here at_s in
          let longrun : IsLongrun ms a = (m, there, same, ends.longrun) in
          leads_within a longrun (inl (sym same))
      | inr path ↦
          let both = back_leads path.2.0 path.0 s m.name a path.1 at_s path.2.1 (inl refl) in
          leads_within a both.0 both.1
    ],
    λ within. elim (within_leads a within) [
      | inl same ↦ inl (at_s ∙ ap (λ x. Some x) same)
      | inr path ↦ leads_back path.0 a s at_s path.1
    ],
  )

-- what pipelines hold is what the walks back from their last consumers come to
pub piped_held : (ms : List Meaning) (services readers : List (List ℕ)) → IsInByteOrder services
    → AreMeanings ms → ArePiped ms → ((name : List ℕ) → Contains services name ↔ IsService ms name)
    → Mirrors (ReadsFrom ms) services services readers → (name a : List ℕ) (s : ℕ)
    → slice_get services s ≡ Some a → HasPiped ms services readers name s ↔ HasInPipeline ms name a
piped_held ms services readers up are piped is_service mirrors name a s at_s = (
  λ h. (
    h.0,
    h.1,
    h.2.0,
    (piped_within ms services readers up are piped is_service mirrors h.0 h.1 name h.2.0 s a at_s).0
        h.2.1,
  ),
  λ h. (
    h.0,
    h.1,
    (
      h.2,
      (piped_within ms services readers up are piped is_service mirrors h.0 h.1 name h.2 s
          a at_s).1 h.3,
    ),
  ),
)
