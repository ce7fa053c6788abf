-- What reading one file shows of its flaws.
use Rattle.std.proofs.Common.{◌≡◌, ℕ, ◌⊎◌, ⊎_elim, inl, inr, List, Option, Some, arith, sym}
use Rattle.std.proofs.Common.{subst}
use Rattle.rc_source.specs.declared.fault.Flaw.{Flaw}
use Rattle.rc_source.specs.declared.fault.Flaw.TheVariants.{Io}
use Rattle.rc_source.specs.TreeFaults.{IsTooLong}
use Rattle.rc_source.specs.Texts.{IsScriptText}
use Rattle.rc_source.specs.Kinds.{Holds}
use Rattle.rc_source.specs.Files.{IsBadFile, IsReadFlaw, IsWrong, wrong_flaw}

-- a text that a file may have is not too long
fits : (bytes : List ℕ) → IsScriptText bytes → IsTooLong bytes → ⊥
fits bytes s long = let short = s.short in omega arith

-- where a text is not what the file is to hold, too
pub read_wrong : (holds : Holds) (o : Option (List ℕ)) (bytes : List ℕ) (flaw : Flaw)
    → o ≡ Some bytes → IsScriptText bytes → IsWrong holds bytes → flaw ≡ wrong_flaw holds
    → IsReadFlaw holds o flaw ⊎ (flaw ≡ Io)
read_wrong holds o bytes flaw here s wrong e =
    let P : Option (List ℕ) → Type 0 = λ p. IsReadFlaw holds p flaw in
    inl (subst P (sym here) (inr (e, fits bytes s, s.is_text, wrong)))

-- a file that holds what it is to hold has no flaw
pub text_passes : (holds : Holds) (o : Option (List ℕ)) (bytes : List ℕ) → o ≡ Some bytes
    → IsScriptText bytes → (IsWrong holds bytes → ⊥) → (flaw : Flaw) → IsReadFlaw holds o flaw → ⊥
text_passes holds o bytes here s good flaw has =
    let P : Option (List ℕ) → Type 0 = λ p. IsReadFlaw holds p flaw in
    let bad : IsBadFile holds bytes flaw = subst P here has in
    ⊎_elim (λ no_text. ⊎_elim (λ long. fits bytes s long.1) (λ not_text. not_text.2 s.is_text)
    no_text) (λ wrong. good wrong.3) bad
