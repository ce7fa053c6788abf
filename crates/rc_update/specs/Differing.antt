-- How a service that does not go on unaltered differs.
use Rattle.std.specs.Prelude.{◌≡◌, ℕ, List, Some, slice_get}
use Rattle.rc_model.specs.Database.{Database, Service}
use Rattle.rc_update.specs.Conversions.{Conversion}
use Rattle.rc_update.specs.Carrying.{AreTwins, IsAlike, IsRestarted, IsTwin, NeedTwins}
use Rattle.rc_update.specs.declared.difference.Difference.{Difference}
use Rattle.rc_update.specs.declared.difference.Difference.TheVariants.{Gone, Restart, OtherKind}
use Rattle.rc_update.specs.declared.difference.Difference.TheVariants.{OtherPipeline, OtherNeeds}

-- a service goes on as another one, and is not to be restarted; this is what is said of both
pub record ArePaired (old new : Database) (list : List Conversion) (s t : ℕ) (a b : Service)
    : Type 0 where
  pub twin : IsTwin old new list s t
  pub spared : IsRestarted old list s → ⊥
  pub first : slice_get old.services s ≡ Some a
  pub second : slice_get new.services t ≡ Some b

-- the first that applies: the service is gone; it is to be restarted; its kind is another one; its
-- output goes to another one; what it needs is other
abbrev pub IsDifference : (old new : Database) → List Conversion → ℕ → Difference → Type 0
IsDifference old new list s Gone = (t : ℕ) → IsTwin old new list s t → ⊥
IsDifference old new list s Restart =
    (t : ℕ) × IsTwin old new list s t × IsRestarted old list s
IsDifference old new list s OtherKind = (t : ℕ) × (a : Service) × (b : Service)
    × ArePaired old new list s t a b × (a.kind ≡ b.kind → ⊥)
IsDifference old new list s OtherPipeline = (t : ℕ) × (a : Service) × (b : Service)
    × ArePaired old new list s t a b × (a.kind ≡ b.kind)
    × (AreTwins old new list a.producer_for b.producer_for → ⊥)
IsDifference old new list s OtherNeeds = (t : ℕ) × (a : Service) × (b : Service)
    × ArePaired old new list s t a b × IsAlike old new list a b
    × (NeedTwins old new list s t → ⊥)
