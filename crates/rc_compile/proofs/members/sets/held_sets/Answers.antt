use Rattle.std.proofs.Common.{◌∙◌, ap, length, map, sym, subst}
use Rattle.std.proofs.lemmas.List.{take_at}
use Rattle.rc_compile.specs.Rows.{rows}
use Rattle.rc_source.specs.Said.{meaning_of}
use Rattle.rc_compile.specs.Pipelines.{ReadsFrom}
use Rattle.rc_compile.specs.Standing.{HasContent}
use Rattle.rc_compile.specs.Mirror.{Mirrors}
use Rattle.rc_compile.specs.Joining.{AllWithin}
use Rattle.rc_compile.specs.Sets.{AreSetsOf}
use Rattle.rc_compile.proofs.RowLemmas.{length-rows}
use Rattle.rc_compile.proofs.Drafts.{known_among}
use Rattle.rc_compile.proofs.SetLists.{held_sets}
use Rattle.rc_compile.proofs.members.sets.held_sets.Goals as goal

pub add_pipelines-requires-clause-few : goal.add_pipelines-requires-clause-few
add_pipelines-requires-clause-few c = ap length c.deref_mut.ensures.value ∙ c.in_ok-sets.ensures.few

pub add_pipelines-requires-clause-bounds : goal.add_pipelines-requires-clause-bounds
add_pipelines-requires-clause-bounds c =
    subst (AllWithin (length c.args.services.now)) (sym c.deref_mut.ensures.value)
    c.in_ok-sets.ensures.bounds

pub add_pipelines-requires-clause-readers : goal.add_pipelines-requires-clause-readers
add_pipelines-requires-clause-readers c =
    ap length c.deref.ensures.value
    ∙ (sym (length-rows c.in_ok-readers.readers.items) ∙ c.in_ok-readers.ensures.few)

pub returns-clause-few : goal.returns-clause-few
returns-clause-few c =
    rw (take_at _ _ _ (c.add_pipelines.auto.sets ∙ c.deref_mut.ensures.len))
    (c.add_pipelines.ensures.few ∙ (ap length c.deref_mut.ensures.value ∙ c.in_ok-sets.ensures.few))

pub returns-clause-bounds : goal.returns-clause-bounds
returns-clause-bounds c =
    rw (take_at _ _ _ (c.add_pipelines.auto.sets ∙ c.deref_mut.ensures.len))
    c.add_pipelines.ensures.bounds

pub add_pipelines-requires-clause-known : goal.add_pipelines-requires-clause-known
add_pipelines-requires-clause-known c =
    known_among (ReadsFrom (map meaning_of c.args.definitions.now)) c.args.services.now
    (rows c.in_ok-readers.readers.items) (rows c.deref.result.now) c.in_ok-readers.ensures
    (ap rows c.deref.ensures.value)

pub returns-clause-sets : goal.returns-clause-sets
returns-clause-sets c =
    let ms = map meaning_of c.args.definitions.now in
    rw (take_at _ _ _ (c.add_pipelines.auto.sets ∙ c.deref_mut.ensures.len))
    (held_sets ms c.args.services.now c.args.bundles.now (rows c.deref.result.now)
    c.deref_mut.result.now c.add_pipelines.new.sets c.len-count.ensures.names.order
    c.requires.meanings c.requires.piped c.requires.services
    (subst (Mirrors (ReadsFrom ms) c.args.services.now c.args.services.now)
    (ap rows (sym c.deref.ensures.value)) c.in_ok-readers.ensures)
    (subst (AreSetsOf (HasContent ms) c.args.bundles.now c.args.services.now)
    (sym c.deref_mut.ensures.value) c.in_ok-sets.ensures.sets) c.in_ok-add_pipelines.ensures.sets)
