use Rattle.std.proofs.Common.{Contains, map, arith}
use Rattle.std.proofs.lemmas.List.{length-map}
use Rattle.rc_db.proofs.Words.{mapped_at}
use Rattle.rc_source.specs.Said.{meaning_of}
use Rattle.rc_compile.specs.Given.{Gives, IsNameOf}
use Rattle.rc_compile.proofs.Givens.{few_in_table, seen_next, too_many, given_whole}
use Rattle.rc_compile.proofs.tables.names_of.Goals as goal

pub loop-definition-preserved : goal.loop-definition-preserved
loop-definition-preserved c =
    let here = mapped_at meaning_of c.args.definitions.now c.loop-definition.definition-index
    c.definition-item.result (omega arith) c.definition-item.is in
    seen_next (Gives c.args.which) (map meaning_of c.args.definitions.now)
    (Contains c.loop-definition.names) (Contains c.add_given.new.names)
    c.loop-definition.definition-index (meaning_of c.definition-item.result) here
    c.loop-definition.invariant (c.in_ok-add_given.ensures.adds c.if-not-branch.false)

pub returns-then-not-branch-clause-many : goal.returns-then-not-branch-clause-many
returns-then-not-branch-clause-many c =
    let here = mapped_at meaning_of c.args.definitions.now c.loop-definition.definition-index
    c.definition-item.result (omega arith) c.definition-item.is in
    too_many c.args.which (map meaning_of c.args.definitions.now) c.loop-definition.names
    c.loop-definition.definition-index (meaning_of c.definition-item.result)
    c.in_ok-add_given.ensures.names here c.loop-definition.invariant
    (c.in_ok-add_given.ensures.full c.if-not-branch.true)

pub returns-clause-same : goal.returns-clause-same
returns-clause-same c =
    let ms = map meaning_of c.args.definitions.now in
    given_whole c.args.which ms c.loop-definition.names c.loop-definition.definition-index
    (omega (arith, length-map c.args.definitions.now meaning_of)) c.loop-definition.invariant

pub returns-clause-few : goal.returns-clause-few
returns-clause-few c =
    let ms = map meaning_of c.args.definitions.now in
    let whole = given_whole c.args.which ms c.loop-definition.names
    c.loop-definition.definition-index (omega (arith, length-map c.args.definitions.now meaning_of))
    c.loop-definition.invariant in
    few_in_table (IsNameOf c.args.which ms) c.loop-definition.names c.len-count.ensures.names
    (λ n given. (whole n).1 given)
