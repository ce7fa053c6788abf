use Rattle.std.proofs.Common.{◌∙◌, List, map, take, sym, subst}
use Rattle.std.proofs.lemmas.List.{take_at, take_all}
use Rattle.rc_compile.specs.Rows.{rows}
use Rattle.rc_source.specs.Meaning.{Meaning}
use Rattle.rc_source.specs.Said.{meaning_of}
use Rattle.rc_source.specs.declared.definition.Definition.{Definition}
use Rattle.rc_compile.specs.Mirror.{Mirrors, HasListed}
use Rattle.rc_compile.proofs.Listing.{mirrors_none, mirrors_next, meanings_more}
use Rattle.rc_compile.proofs.members.rows.rows_of.Goals as goal

pub loop-definition-init : goal.loop-definition-init
loop-definition-init c =
    mirrors_none c.args.which c.args.from.now c.args.to.now _ _ c.in_ok-lists.ensures
    c.len.ensures.len

pub loop-definition-preserved : goal.loop-definition-preserved
loop-definition-preserved c =
    let i = c.loop-definition.definition-index in
    rw (take_at _ _ _ (c.add_row.auto.lists ∙ c.deref_mut.ensures.len))
    (subst (λ (ms : List Meaning). Mirrors (HasListed c.args.which ms) c.args.from.now c.args.to.now
    (rows c.add_row.new.lists))
    (sym (meanings_more c.args.definitions.now i c.definition-item.result
    c.loop-definition-test.true c.definition-item.is))
    (mirrors_next c.args.which (map meaning_of (take i c.args.definitions.now))
    (meaning_of c.definition-item.result) c.args.from.now c.args.to.now
    c.loop-definition.lists.items c.deref_mut.result.now c.add_row.new.lists
    c.loop-definition.invariant c.deref_mut.ensures.value c.add_row.ensures.few
    c.in_ok-add_row.ensures.rows))

pub returns : goal.returns
returns c =
    subst (λ (ds : List Definition). Mirrors (HasListed c.args.which (map meaning_of ds))
    c.args.from.now c.args.to.now (rows c.loop-definition.lists.items))
    (take_all c.loop-definition.definition-index c.args.definitions.now
    c.loop-definition-test.false) c.loop-definition.invariant
