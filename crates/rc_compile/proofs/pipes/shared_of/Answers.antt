use Rattle.std.proofs.Common.{◌∙◌, map, arith}
use Rattle.std.proofs.lemmas.List.{length-map}
use Rattle.rc_db.proofs.Words.{mapped_at}
use Rattle.rc_source.specs.Said.{meaning_of}
use Rattle.rc_model.specs.Names.{Has}
use Rattle.rc_compile.specs.Book.{GivesAt}
use Rattle.rc_compile.proofs.Givens.{seen_none, seen_next}
use Rattle.rc_compile.proofs.Sharing.{none_twice, twice_next, twice_whole}
use Rattle.rc_compile.proofs.pipes.shared_of.Goals as goal

pub loop-definition-init : goal.loop-definition-init
loop-definition-init c =
    let ms = map meaning_of c.args.definitions.now in
    let names = c.args.bundles.now in
    record {
      bound_seen = c.in_ok-seen.ensures.bound ∙ c.len.ensures.len;
      bound_shared = c.in_ok-shared.ensures.bound ∙ c.len-2.ensures.len;
      seen = seen_none (GivesAt names) ms (Has c.in_ok-seen.seen) c.in_ok-seen.ensures.members;
      shared = none_twice ms names c.in_ok-shared.shared c.in_ok-shared.ensures.members;
    }

pub loop-definition-preserved : goal.loop-definition-preserved
loop-definition-preserved c =
    let ms = map meaning_of c.args.definitions.now in
    let names = c.args.bundles.now in
    let i = c.loop-definition.definition-index in
    let m = meaning_of c.definition-item.result in
    let here = mapped_at meaning_of c.args.definitions.now i c.definition-item.result (omega arith)
    c.definition-item.is in
    let before = c.loop-definition.invariant in
    record {
      bound_seen = c.mark.ensures.bound_seen ∙ before.bound_seen;
      bound_shared = c.mark.ensures.bound_shared ∙ before.bound_shared;
      seen =
          seen_next (GivesAt names) ms (Has c.loop-definition.seen) (Has c.mark.new.seen) i m here
          before.seen c.mark.ensures.seen;
      shared =
          twice_next ms names i m c.loop-definition.seen c.loop-definition.shared c.mark.new.shared
          here before.seen before.shared c.mark.ensures.shared;
    }

pub returns-clause-members : goal.returns-clause-members
returns-clause-members c =
    twice_whole (map meaning_of c.args.definitions.now) c.args.bundles.now
    c.loop-definition.definition-index c.loop-definition.shared
    (omega (arith, length-map c.args.definitions.now meaning_of)) c.requires
    c.loop-definition.invariant.shared
