use Rattle.std.proofs.Common.{◌<◌, ℕ, List, length, map, sym, ap, subst, arith}
use Rattle.rc_model.specs.Graph.{Needs}
use Rattle.rc_compile.specs.Rows.{rows}
use Rattle.rc_compile.proofs.RowLemmas.{length-rows}
use Rattle.rc_source.specs.Said.{meaning_of}
use Rattle.rc_compile.specs.Standing.{HasContent}
use Rattle.rc_compile.proofs.Drafts.{mirrors_known}
use Rattle.rc_compile.proofs.SetLists.{mirrored_sets}
use Rattle.rc_compile.proofs.members.sets.content_sets.Goals as goal

pub sets_of-requires-clause-known : goal.sets_of-requires-clause-known
sets_of-requires-clause-known c s t need =
    let low : t < length c.args.services.now =
    mirrors_known (HasContent (map meaning_of c.args.definitions.now)) c.args.bundles.now
    c.args.services.now (rows c.in_ok-contents.contents.items) c.in_ok-contents.ensures s t
    (subst (λ (ls : List (List ℕ)). Needs ls s t) (ap rows c.deref.ensures.value) need) in
    omega (arith, c.len-bound.ensures.len)

pub returns-clause-sets : goal.returns-clause-sets
returns-clause-sets c =
    mirrored_sets c.sets_of.result (HasContent (map meaning_of c.args.definitions.now))
    c.args.bundles.now c.args.services.now (rows c.in_ok-contents.contents.items)
    (rows c.deref.result.now)
    (length c.deref.result.now) c.in_ok-contents.ensures (ap rows c.deref.ensures.value)
    (sym (length-rows c.deref.result.now)) c.sets_of.ensures.sets
