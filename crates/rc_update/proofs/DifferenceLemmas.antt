-- A service that differs does not go on unaltered.
use Rattle.std.proofs.Common.{◌≡◌, ◌∙◌, ◌<◌, ℕ, List, Option, None, Some, IfSome, length, slice_get}
use Rattle.std.proofs.Common.{ap, refl, subst, sym, arith}
use Rattle.std.proofs.lemmas.Option.{same_Some}
use Rattle.rc_model.specs.Database.{Database, IsDatabase, Service}
use Rattle.rc_update.specs.Conversions.{Conversion}
use Rattle.rc_update.specs.Carrying.{IsAlike, IsTwin, IsUnaltered}
use Rattle.rc_update.specs.Carrying.{NeedTwins}
use Rattle.rc_update.specs.Differing.{ArePaired, IsDifference}
use Rattle.rc_update.specs.declared.difference.Difference.{Difference}
use Rattle.rc_update.specs.declared.difference.Difference.TheVariants.{Gone, Restart, OtherKind}
use Rattle.rc_update.specs.declared.difference.Difference.TheVariants.{OtherPipeline, OtherNeeds}
use Rattle.rc_update.proofs.CarryingLemmas.{one_twin}

module _ (old new : Database) (list : List Conversion) (s : ℕ) where
  -- what is said of an unaltered service and the one as which it goes on
  alike_back : (t : ℕ) (a b : Service) → IsDatabase new → ArePaired old new list s t a b
      → IsUnaltered old new list s → IsAlike old new list a b
  alike_back t a b nd pair whole =
      let same = whole.same in
      let is : t ≡ same.0 = one_twin old new list s t same.0 nd pair.twin same.1.twin in
      same.1.alike a b pair.first (ap (slice_get new.services) (sym is) ∙ pair.second)

  needs_back : (t : ℕ) → IsDatabase new → IsTwin old new list s t → IsUnaltered old new list s
      → NeedTwins old new list s t
  needs_back t nd twin whole =
      let same = whole.same in
      subst (NeedTwins old new list s)
      (one_twin old new list s same.0 t nd same.1.twin twin) same.1.needs

  pub differs : (difference : Difference) → IsDatabase new
      → IsDifference old new list s difference → IsUnaltered old new list s → ⊥
  differs Gone nd is whole = is whole.same.0 whole.same.1.twin
  differs Restart nd is whole = whole.spared is.2
  differs OtherKind nd is whole = is.4 (alike_back is.0 is.1 is.2 nd is.3 whole).kind
  differs OtherPipeline nd is whole = is.5 (alike_back is.0 is.1 is.2 nd is.3 whole).reader
  differs OtherNeeds nd is whole = is.5 (needs_back is.0 nd is.3.twin whole)

  -- a service that does not differ goes on unaltered
  pub unaltered : (t : ℕ) (a b : Service) → ArePaired old new list s t a b
      → IsAlike old new list a b → NeedTwins old new list s t → IsUnaltered old new list s
  unaltered t a b pair alike needs = record {
    spared = pair.spared;
    same = (
      t,
      record {
        twin = pair.twin;
        alike = λ x y at_x at_y.
            let is_a : a ≡ x = same_Some a x (sym pair.first ∙ at_x) in
            let is_b : b ≡ y = same_Some b y (sym pair.second ∙ at_y) in
            subst (λ (z : Service). IsAlike old new list z y) is_a
            (subst (IsAlike old new list a) is_b alike);
        needs = needs;
      },
    );
  }

-- what reads what a service writes is a service
pub reader_within : (d : Database) (s : ℕ) (a : Service) → IsDatabase d
    → slice_get d.services s ≡ Some a → IfSome a.producer_for (λ t. t < length d.names)
reader_within d s a of at = by a.producer_for refl
  where
    by : (reader : Option ℕ) → a.producer_for ≡ reader → IfSome reader (λ t. t < length d.names)
    by None is = tt
    by (Some t) is =
        let low : t < length d.needs = of.needs.known s t (of.fit.fed s t (a, at, is)).1 in
        omega (arith, of.fit.graph)
