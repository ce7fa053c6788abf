-- Compiled definitions have no cycle of services that need one another by name.
use Rattle.std.proofs.Common.{◌≡◌, ℕ, List, [], ◌∷◌, ◌++◌}
use Rattle.std.specs.Prelude.{Some, slice_get}
use Rattle.rc_model.specs.Graph.{Reaches}
use Rattle.rc_model.specs.Database.{Database, IsDatabase}
use Rattle.rc_model.proofs.Members.{place_of}
use Rattle.rc_source.specs.Meaning.{Meaning}
use Rattle.rc_compile.specs.Along.{EachNext, IsShownCycle}
use Rattle.rc_compile.specs.Standing.{NeedsNamed}
use Rattle.rc_compile.specs.Compiled.{IsDatabaseOf}

-- the first of a list, or else a last one
abbrev first_of : List (List ℕ) → List ℕ → List ℕ
first_of [] last = last
first_of (x ∷ xs) last = x

head_need : (ms : List Meaning) (rest : List (List ℕ)) (a last : List ℕ)
    → EachNext (NeedsNamed ms) (a ∷ (rest ++ last ∷ [])) → NeedsNamed ms a (first_of rest last)
head_need ms [] a last path = path.0
head_need ms (x ∷ xs) a last path = path.0

module _ (ms : List Meaning) (d : Database) (of : IsDatabaseOf ms d) where
  -- services that need one another by name reach one another by place
  reach : (xs : List (List ℕ)) (a b : List ℕ) (s t : ℕ) → slice_get d.names s ≡ Some a
      → slice_get d.names t ≡ Some b → EachNext (NeedsNamed ms) (a ∷ (xs ++ b ∷ []))
      → Reaches d.needs s t
  reach [] a b s t ps pt path = ([], ((of.needs a b s t ps pt).1 path.0, tt))
  reach (x ∷ xs) a b s t ps pt path =
      let place = place_of d.names x ((of.names.same x).1 path.0.1) in
      let rest = reach xs x b place.0 t place.1 pt path.1 in
      (place.0 ∷ rest.0, ((of.needs a x s place.0 ps place.1).1 path.0, rest.1))

  pub no_ring : IsDatabase d → (names : List (List ℕ)) → IsShownCycle (NeedsNamed ms) names → ⊥
  no_ring is [] ring = ring
  no_ring is (first ∷ rest) ring =
      let own : NeedsNamed ms first (first_of rest first) = head_need ms rest first first ring.2 in
      let place = place_of d.names first ((of.names.same first).1 own.0) in
      is.acyclic place.0 (reach rest first first place.0 place.0 place.1 place.1 ring.2)
