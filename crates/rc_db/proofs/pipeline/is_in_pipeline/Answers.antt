use Rattle.std.proofs.Common.{◌≡◌, slice_index, sym, subst, true≢false}
use Rattle.rc_model.specs.declared.Kind.TheVariants.{Longrun}
use Rattle.rc_model.specs.Database.{Service}
use Rattle.rc_db.specs.Pipeline.{IsLastConsumer}
use Rattle.rc_db.proofs.Pipelines.{same_end}
use Rattle.rc_db.proofs.pipeline.is_in_pipeline.Goals as goal

pub returns-then-ends-id : goal.returns-then-ends-id
returns-then-ends-id c = (
  λ no. absurd (true≢false (sym no)),
  λ within. absurd
      (c.if-ends-id.true
      (same_end c.args.db.now c.args.ends.now c.args.id c.args.s c.requires.id c.requires.service
      c.requires.ends within)),
)

pub returns : goal.returns
returns c =
    let last = slice_index c.args.ends.now c.args.id in (
      λ longrun. (
        (c.service.result.now, c.service.ensures, c.is_longrun.ensures.0 longrun),
        (
          last,
          c.requires.ends c.args.id c.requires.id,
          subst (IsLastConsumer c.args.db.now c.args.s) (sym c.if-ends-id.false)
              (c.requires.ends c.args.s c.requires.service),
        ),
      ),
      λ within.
          let kind = within.0 in
          let same : kind.0 ≡ c.service.result.now = cc (kind.1, c.service.ensures) in
          let P : Service → Type 0 = λ service. service.kind ≡ Longrun in
          c.is_longrun.ensures.1 (subst P same kind.2),
    )
