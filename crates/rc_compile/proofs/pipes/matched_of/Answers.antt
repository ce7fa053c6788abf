use Rattle.std.proofs.Common.{◌∙◌, map, arith}
use Rattle.std.proofs.lemmas.List.{length-map}
use Rattle.rc_model.specs.Names.{Has}
use Rattle.rc_compile.specs.Rows.{rows}
use Rattle.rc_db.proofs.Words.{mapped_at}
use Rattle.rc_source.specs.Said.{meaning_of}
use Rattle.rc_compile.specs.Book.{IsMatchedAt}
use Rattle.rc_compile.proofs.Givens.{seen_none, seen_next, seen_whole}
use Rattle.rc_compile.proofs.pipes.matched_of.Goals as goal

pub loop-definition-init : goal.loop-definition-init
loop-definition-init c = record {
  bound = c.in_ok-matched.ensures.bound ∙ c.len.ensures.len;
  members =
      seen_none (IsMatchedAt c.args.services.now (rows c.args.feeds.now))
      (map meaning_of c.args.definitions.now) (Has c.in_ok-matched.matched)
      c.in_ok-matched.ensures.members;
}

pub loop-definition-preserved : goal.loop-definition-preserved
loop-definition-preserved c =
    let i = c.loop-definition.definition-index in
    let here = mapped_at meaning_of c.args.definitions.now i c.definition-item.result (omega arith)
    c.definition-item.is in
    record {
      bound = c.insert_matched.ensures.bound ∙ c.loop-definition.invariant.bound;
      members =
          seen_next (IsMatchedAt c.args.services.now (rows c.args.feeds.now))
          (map meaning_of c.args.definitions.now) (Has c.loop-definition.matched)
          (Has c.insert_matched.new.set) i (meaning_of c.definition-item.result) here
          c.loop-definition.invariant.members c.insert_matched.ensures.members;
    }

pub returns-clause-members : goal.returns-clause-members
returns-clause-members c =
    seen_whole (IsMatchedAt c.args.services.now (rows c.args.feeds.now))
    (map meaning_of c.args.definitions.now) (Has c.loop-definition.matched)
    c.loop-definition.definition-index
    (omega (arith, length-map c.args.definitions.now meaning_of))
    c.loop-definition.invariant.members
