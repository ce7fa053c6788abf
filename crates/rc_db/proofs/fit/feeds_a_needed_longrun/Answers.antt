use Rattle.std.proofs.Common.{◌∙◌, ℕ, refl, sym, true≢false}
use Rattle.rc_model.specs.declared.Kind.TheVariants.{Longrun}
use Rattle.rc_model.specs.Graph.{Needs}
use Rattle.rc_model.specs.Database.{IsKind}
use Rattle.rc_db.specs.Parts.{database_of}
use Rattle.rc_db.proofs.Fits.{of_fed}
use Rattle.rc_db.proofs.fit.feeds_a_needed_longrun.Goals as goal

pub returns-then-is_longrun : goal.returns-then-is_longrun
returns-then-is_longrun c =
    let d = database_of c.args.parts.now in
    let P : ℕ → Type 0 = λ t. IsKind d t Longrun × Needs c.args.parts.now.graph c.args.s t in
    let one = of_fed d c.args.s c.in-Some.t P c.in-Some.ensures.some in (
      λ yes. one.1 (c.if-is_longrun.ensures.0 refl, c.is_needed.ensures.0 yes),
      λ all. c.is_needed.ensures.1 (one.0 all).1,
    )

pub returns-else-is_longrun : goal.returns-else-is_longrun
returns-else-is_longrun c = (
  λ yes. absurd (true≢false (sym yes ∙ c.if-is_longrun.false)),
  λ all. c.is_longrun.ensures.1 (all c.in-Some.t c.in-Some.ensures.some).0,
)

pub returns-in-None : goal.returns-in-None
returns-in-None c = (λ _ t feeds. absurd (c.in-None.ensures.none t feeds), λ _. refl)
