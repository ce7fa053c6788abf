use Rattle.std.proofs.Common.{map, string_bytes}
use Rattle.rc_model.specs.Database.{Selected}
use Rattle.rc_cli.proofs.DbLemmas.{found_within, listed_within, selected_within}
use Rattle.rc_cli.proofs.queries.db_answer.names_text.Goals as goal

pub id_lines-requires : goal.id_lines-requires
id_lines-requires c =
    let d = c.args.db.now in
    let held = c.names.ensures.database in
    listed_within _ c.in_ok-ids.ids.items c.deref.result.now d.names c.names.result.now
    c.in_ok-ids.ensures.ids c.deref.ensures.value c.names.ensures.names
    (λ s there. found_within d c.args.way c.args.query
    (Selected d.names d.table (map string_bytes c.args.names.now)) s held
    (λ t chosen. selected_within d (map string_bytes c.args.names.now) t held chosen) there)
