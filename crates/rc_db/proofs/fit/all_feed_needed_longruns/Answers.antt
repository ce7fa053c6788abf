use Rattle.std.proofs.Common.{◌≡◌, ◌<◌, ⊎_elim, ℕ, refl, sym, subst, true≢false, arith}
use Rattle.std.proofs.lemmas.Bool.{cases_lt}
use Rattle.std.proofs.lemmas.Option.{slice_get_within}
use Rattle.rc_model.specs.declared.Kind.TheVariants.{Longrun}
use Rattle.rc_model.specs.Graph.{Needs}
use Rattle.rc_model.specs.Database.{Feeds, IsKind}
use Rattle.rc_db.specs.Parts.{database_of}
use Rattle.rc_db.proofs.fit.all_feed_needed_longruns.Goals as goal

pub returns-then-not-feeds_a_needed_longrun : goal.returns-then-not-feeds_a_needed_longrun
returns-then-not-feeds_a_needed_longrun c = (
  λ no. absurd (true≢false (sym no)),
  λ all. c.if-not-feeds_a_needed_longrun.ensures.1 (λ t feeds. all c.loop-s.s t feeds),
)

pub loop-s-preserved : goal.loop-s-preserved
loop-s-preserved c k t within feeds =
    let d = database_of c.args.parts.now in
    let Well : ℕ → Type 0 =
    λ s. Feeds d s t → IsKind d t Longrun × Needs c.args.parts.now.graph s t in
    ⊎_elim
    (λ (low : k < c.loop-s.s). c.loop-s.invariant k t low feeds)
    (λ high. let same : c.loop-s.s ≡ k = omega arith in
    subst Well same (c.if-not-feeds_a_needed_longrun.ensures.0 refl t) feeds)
    (cases_lt k c.loop-s.s)

pub returns : goal.returns
returns c = (
  λ _ s t feeds. c.loop-s.invariant s t
      (omega (arith, slice_get_within c.args.parts.now.services.items s feeds.0 feeds.1)) feeds,
  λ _. refl,
)
