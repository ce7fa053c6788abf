-- Needs of places are those of names.
use Rattle.std.proofs.Common.{◌≡◌, ◌<◌, ◌⊎◌, ◌↔◌, ⊎_elim, inl, inr, ℕ, Bool, List, [], ◌∷◌, ◌++◌}
use Rattle.std.proofs.Common.{length, get_or, slice_get, Contains, Some, refl, subst}
use Rattle.std.proofs.lemmas.Option.{slice_get-get_or, slice_get_within}
use Rattle.rc_model.specs.Names.{Has}
use Rattle.rc_model.proofs.SetMembers.{has_within}
use Rattle.rc_model.specs.Graph.{Needs}
use Rattle.rc_model.proofs.Places.{contains_at, place_of}
use Rattle.rc_source.specs.Meaning.{Meaning, AreMeanings}
use Rattle.rc_compile.specs.Along.{EachNext}
use Rattle.rc_compile.specs.Mirror.{AreAt, HasListed, Mirrors}
use Rattle.rc_compile.specs.declared.members.rows.Listed.TheVariants.{Dependencies, Producer}
use Rattle.rc_compile.specs.Pipelines.{IsService}
use Rattle.rc_compile.specs.Standing.{IsBundle, HoldsName, StandsFor, NeedsNamed}
use Rattle.rc_compile.proofs.Meanings.{holder_is_bundle}
use Rattle.rc_compile.proofs.Looking.{option_listed}

-- a path has a first step
first_step : (R : List ℕ → List ℕ → Type 0) (between : List (List ℕ)) (a b : List ℕ)
    → EachNext R (a ∷ (between ++ b ∷ [])) → (x : List ℕ) × R a x
first_step R [] a b path = (b, path.0)
first_step R (x ∷ between) a b path = (x, path.0)

module _ (ms : List Meaning) (are : AreMeanings ms) where
  module _ (services bundles : List (List ℕ)) (through draft : List (List ℕ))
      (sets : List (List Bool))
      (is_service : (name : List ℕ) → Contains services name ↔ IsService ms name)
      (is_bundle : (name : List ℕ) → Contains bundles name ↔ IsBundle ms name)
      (by_bundle : Mirrors (HasListed Dependencies ms) services bundles through)
      (bound : (b : ℕ) → b < length bundles → length (get_or sets b []) ≡ length services)
      (stands : (b s : ℕ) (name a : List ℕ) → slice_get bundles b ≡ Some name
      → slice_get services s ≡ Some a → Has (get_or sets b []) s ↔ StandsFor ms name a)
      (long : length draft ≡ length services)
      (pairs : (s t : ℕ)
      → Needs draft s t
      ↔ ((AreAt (HasListed Dependencies ms) services services s t
      ⊎ ((b : ℕ) × Needs through s b × Has (get_or sets b []) t))
      ⊎ AreAt (HasListed Producer ms) services services s t)) where
    abbrev At : ℕ → ℕ → Type 0
    At s t = AreAt (NeedsNamed ms) services services s t

    serves : (s : ℕ) (a : List ℕ) → slice_get services s ≡ Some a → IsService ms a
    serves s a at = (is_service a).0 (contains_at services s a at)

    forth_direct : (s t : ℕ) → AreAt (HasListed Dependencies ms) services services s t → At s t
    forth_direct s t (a, b, at_a, at_b, (m, there, named, has)) = (
      a,
      b,
      at_a,
      at_b,
      (
        serves s a at_a,
        serves t b at_b,
        inl (m, there, named, (b, has, (serves t b at_b, inl refl))),
      ),
    )

    forth_through : (s t b : ℕ) → Needs through s b → Has (get_or sets b []) t → At s t
    forth_through s t b need has_t =
        let (a, name, at_a, at_name, (m, there, named, has)) = (by_bundle.same s b).0 need in
        let inside : t < length services =
        subst (λ n. t < n) (bound b (slice_get_within bundles b name at_name))
        (has_within (get_or sets b []) t has_t) in
        let x = get_or services t [] in
        let at_x = slice_get-get_or services t [] inside in (
          a,
          x,
          at_a,
          at_x,
          (
            serves s a at_a,
            serves t x at_x,
            inl (m, there, named, (name, has, (stands b t name x at_name at_x).0 has_t)),
          ),
        )

    forth_feeds : (s t : ℕ) → AreAt (HasListed Producer ms) services services s t → At s t
    forth_feeds s t (a, b, at_a, at_b, (m, there, named, has)) = (
      a,
      b,
      at_a,
      at_b,
      (
        serves s a at_a,
        serves t b at_b,
        inr (m, there, named, (option_listed m.producer_for b).0 has),
      ),
    )

    back : (s t : ℕ) → At s t
        → (AreAt (HasListed Dependencies ms) services services s t
        ⊎ ((b : ℕ) × Needs through s b × Has (get_or sets b []) t))
        ⊎ AreAt (HasListed Producer ms) services services s t
    back s t (a, b, at_a, at_b, (sa, sb, inr (m, there, named, writes))) =
        inr (a, b, at_a, at_b, (m, there, named, (option_listed m.producer_for b).1 writes))
    back s t (
      a,
      b,
      at_a,
      at_b,
      (sa, sb, inl (m, there, named, (name, has, (serves_b, inl same)))),
    ) =
        inl (inl (a, b, at_a, at_b, (m, there, named, subst (Contains m.dependencies) same has)))
    back s t (
      a,
      b,
      at_a,
      at_b,
      (sa, sb, inl (m, there, named, (name, has, (serves_b, inr path)))),
    ) =
        let step = first_step (HoldsName ms) path.0 name b path.1 in
        let at =
        place_of bundles name ((is_bundle name).1 (holder_is_bundle ms name step.0 are step.1)) in
        inl (inr (
          at.0,
          (by_bundle.same s at.0).1 (a, name, at_a, at.1, (m, there, named, has)),
          (stands at.0 t name b at.1 at_b).1 (serves_b, inr path),
        ))

    -- the draft has the needs of the names
    pub needs_mirror : Mirrors (NeedsNamed ms) services services draft
    needs_mirror = record {
      few = long;
      same = λ s t. (
        λ need. ⊎_elim
            (λ either. ⊎_elim (λ direct. forth_direct s t direct)
            (λ (b, through, has). forth_through s t b through has) either)
            (λ feed. forth_feeds s t feed) ((pairs s t).0 need),
        λ at. (pairs s t).1 (back s t at),
      );
    }
