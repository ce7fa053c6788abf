use Rattle.rc_cli.proofs.DbLemmas.{bundle_within, listed_within}
use Rattle.rc_cli.proofs.queries.db_answer.contents_text.Goals as goal

pub id_lines-requires : goal.id_lines-requires
id_lines-requires c =
    let found = c.in_ok-ids.ensures.ids in
    listed_within _ c.in_ok-ids.ids.items c.deref.result.now c.args.db.now.names c.names.result.now
    found.2 c.deref.ensures.value c.names.ensures.names
    (λ s has. bundle_within c.args.db.now c.args.name.now found.0 s c.names.ensures.database found.1
    has)
