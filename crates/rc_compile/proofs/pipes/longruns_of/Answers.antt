use Rattle.std.proofs.Common.{◌∙◌, map, arith}
use Rattle.std.proofs.lemmas.List.{length-map}
use Rattle.rc_model.specs.Names.{Has}
use Rattle.rc_db.proofs.Words.{mapped_at}
use Rattle.rc_source.specs.Said.{meaning_of}
use Rattle.rc_compile.specs.Book.{IsLongrunAt}
use Rattle.rc_compile.proofs.Givens.{seen_none, seen_next, seen_whole}
use Rattle.rc_compile.proofs.pipes.longruns_of.Goals as goal

pub loop-definition-init : goal.loop-definition-init
loop-definition-init c = record {
  bound = c.in_ok-longruns.ensures.bound ∙ c.len.ensures.len;
  members =
      seen_none (IsLongrunAt c.args.services.now) (map meaning_of c.args.definitions.now)
      (Has c.in_ok-longruns.longruns) c.in_ok-longruns.ensures.members;
}

pub loop-definition-preserved : goal.loop-definition-preserved
loop-definition-preserved c =
    let i = c.loop-definition.definition-index in
    let here = mapped_at meaning_of c.args.definitions.now i c.definition-item.result (omega arith)
    c.definition-item.is in
    record {
      bound = c.insert_longrun.ensures.bound ∙ c.loop-definition.invariant.bound;
      members =
          seen_next (IsLongrunAt c.args.services.now) (map meaning_of c.args.definitions.now)
          (Has c.loop-definition.longruns) (Has c.insert_longrun.new.set) i
          (meaning_of c.definition-item.result) here
          c.loop-definition.invariant.members c.insert_longrun.ensures.members;
    }

pub returns-clause-members : goal.returns-clause-members
returns-clause-members c =
    seen_whole (IsLongrunAt c.args.services.now) (map meaning_of c.args.definitions.now)
    (Has c.loop-definition.longruns) c.loop-definition.definition-index
    (omega (arith, length-map c.args.definitions.now meaning_of))
    c.loop-definition.invariant.members
