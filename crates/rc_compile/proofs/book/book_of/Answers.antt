use Rattle.std.proofs.Common.{⊎_elim, List, ℕ, Option, IfSome, map, subst}
use Rattle.rc_source.specs.Said.{meaning_of}
use Rattle.rc_compile.specs.Pipelines.{IsService}
use Rattle.rc_compile.specs.Standing.{IsBundle}
use Rattle.rc_compile.specs.CompileFaults.{AreTooMany}
use Rattle.rc_compile.proofs.book.book_of.Goals as goal

pub returns-clause-few : goal.returns-clause-few
returns-clause-few c =
    let ms = map meaning_of c.args.definitions.now in
    let Services : Option (List (List ℕ)) → Type 0 =
    λ found. IfSome found (λ names. AreTooMany (IsService ms) → ⊥) in
    let Bundles : Option (List (List ℕ)) → Type 0 =
    λ found. IfSome found (λ names. AreTooMany (IsBundle ms) → ⊥) in
    λ flaw. ⊎_elim (subst Services c.in-Some.is c.in_ok-services.ensures.few)
    (subst Bundles c.in-Some-found.is c.in-Ok.ensures.few) flaw
