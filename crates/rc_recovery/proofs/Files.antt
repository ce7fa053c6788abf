-- What a recovery over the two files has done.
use Rattle.std.proofs.Common.{◌≡◌, ◌⊎◌, inl, inr, ℕ, List, Option, Some, None, subst}
use Rattle.std.specs.Prelude.{IfNone, IfSome}
use Rattle.std.specs.Option.{option_map}
use Rattle.rc_model.specs.Database.{Database}
use Rattle.rc_recovery.specs.RunLog.{HasNothing, IsEntered}
use Rattle.rc_recovery.specs.Files.{AfterCrash, Files}
use Rattle.rc_recovery.specs.Recoveries.{IsCutRecovery, Makes, recovery_writes}

-- what holds of the bytes that were read holds of the files
pub of_files : (Q : List ℕ → List ℕ → Type 0) (file log : List ℕ) (f : Files) → file ≡ f.file
    → log ≡ f.log → Q file log → Q f.file f.log
of_files Q file log f same_file same_log is =
    subst (Q f.file) same_log (subst (λ (x : List ℕ). Q x log) same_file is)

-- what a recovery makes of the bytes is what it makes of the files
pub makes : {R : Type 0} (text told : R → List ℕ) (d : Database) (f : Files) (made : Option R)
    → IfSome made (λ one. IsEntered d f.file f.log (text one) (told one))
    → IfNone made (HasNothing d f.file f.log) → Makes d f (option_map text made)
makes text told d f None entered nothing = nothing
makes text told d f (Some one) entered nothing = (told one, entered)

-- a call that left what it was handed, or what a crash of a recovery leaves
pub is_cut : (d : Database) (f g : Files) (made : Option (List ℕ)) (Left : Type 0) → (Left → g ≡ f)
    → Makes d f made → Left ⊎ AfterCrash (recovery_writes made) f g → IsCutRecovery d f g
is_cut d f g made Left opened makes (inl was) = inl (opened was)
is_cut d f g made Left opened makes (inr crash) = inr (made, makes, crash)
