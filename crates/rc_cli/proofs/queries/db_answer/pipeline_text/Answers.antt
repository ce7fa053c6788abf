use Rattle.rc_db.proofs.Pipelines.{in_pipeline_within}
use Rattle.rc_cli.proofs.DbLemmas.{listed_within}
use Rattle.rc_cli.proofs.queries.db_answer.pipeline_text.Goals as goal

pub id_lines-requires : goal.id_lines-requires
id_lines-requires c =
    let found = c.in_ok-ids.ensures.ids in
    listed_within _ c.in_ok-ids.ids.items c.deref.result.now c.args.db.now.names c.names.result.now
    found.2 c.deref.ensures.value c.names.ensures.names
    (λ s there. in_pipeline_within c.args.db.now found.0 s c.names.ensures.database there)
