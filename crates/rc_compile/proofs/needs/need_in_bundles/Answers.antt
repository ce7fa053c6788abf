use Rattle.std.proofs.Common.{◌∙◌, ◌<◌, map, length, sym, ap, subst, arith}
use Rattle.std.proofs.lemmas.Result.{on_ok_weaker}
use Rattle.rc_model.specs.Graph.{Needs}
use Rattle.rc_compile.specs.Rows.{rows}
use Rattle.rc_compile.proofs.RowLemmas.{length-rows}
use Rattle.rc_source.specs.Said.{meaning_of}
use Rattle.rc_compile.specs.Mirror.{HasListed, Mirrors}
use Rattle.rc_compile.specs.declared.members.rows.Listed.TheVariants.{Dependencies}
use Rattle.rc_compile.proofs.Drafts.{mirrors_known}
use Rattle.rc_compile.proofs.needs.need_in_bundles.Goals as goal

pub need_bundles-requires-clause-bound : goal.need_bundles-requires-clause-bound
need_bundles-requires-clause-bound c =
    ap length c.deref.ensures.value ∙ sym (length-rows c.in_ok-lists.lists.items)
    ∙ c.in_ok-lists.ensures.few ∙ sym c.requires.bound

pub need_bundles-requires-clause-known : goal.need_bundles-requires-clause-known
need_bundles-requires-clause-known c s t need =
    let R = HasListed Dependencies (map meaning_of c.args.definitions.now) in
    let there : Needs (rows c.in_ok-lists.lists.items) s t =
    subst (λ v. Needs (rows v) s t) c.deref.ensures.value need in
    let low : t < length c.args.bundles.now = mirrors_known R c.args.services.now c.args.bundles.now
    (rows c.in_ok-lists.lists.items) c.in_ok-lists.ensures s t there in
    omega (arith, c.requires.few)

pub returns-clause-pairs : goal.returns-clause-pairs
returns-clause-pairs c =
    let R = HasListed Dependencies (map meaning_of c.args.definitions.now) in
    on_ok_weaker c.need_bundles.result
    (λ pairs. (
      rows c.deref.result.now,
      subst (λ v. Mirrors R c.args.services.now c.args.bundles.now (rows v))
          (sym c.deref.ensures.value) c.in_ok-lists.ensures,
      pairs,
    ))
    c.need_bundles.ensures.pairs

pub need_bundles-requires-clause-bounds : goal.need_bundles-requires-clause-bounds
need_bundles-requires-clause-bounds c k d within =
    c.requires.bounds k d within ∙ sym c.requires.bound
