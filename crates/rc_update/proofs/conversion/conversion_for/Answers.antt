use Rattle.std.proofs.Common.{◌∙◌, ◌+◌, List, [], Bool, Some, if◌then◌else◌, drop, get_or, ap}
use Rattle.std.proofs.Common.{false}
use Rattle.std.proofs.Common.{sym, arith}
use Rattle.std.proofs.lemmas.List.{at_drop_all, at_drop_more}
use Rattle.rc_update.specs.Conversions.{conversion_for, conversion_of, conversions_of}
use Rattle.rc_update.specs.declared.conversion.Conversion.{Conversion as Given}
use Rattle.rc_update.proofs.conversion.conversion_for.Goals as goal

-- what stands past the end of the list
abbrev none : Given
none = record {
  old = record { ref_ptr = (0, 0); now = [] };
  new = record { ref_ptr = (0, 0); now = [] };
  restart = false;
}

pub returns-then-is_same : goal.returns-then-is_same
returns-then-is_same c =
    let xs = c.args.list.now in
    let i = c.loop-one.one-index in
    let name = c.args.name.now in
    c.loop-one.invariant
    ∙ at_drop_more (λ (more : List Given). conversion_for (conversions_of more) name) xs i none
    c.loop-one-test.true
    ∙ ap (λ (b : Bool). if b then Some (conversion_of (get_or xs i none))
    else conversion_for (conversions_of (drop (i + 1) xs)) name)
    (sym c.is_same.ensures ∙ c.if-is_same.true)

pub loop-one-preserved : goal.loop-one-preserved
loop-one-preserved c =
    let xs = c.args.list.now in
    let i = c.loop-one.one-index in
    let name = c.args.name.now in
    c.loop-one.invariant
    ∙ at_drop_more (λ (more : List Given). conversion_for (conversions_of more) name) xs i none
    c.loop-one-test.true
    ∙ ap (λ (b : Bool). if b then Some (conversion_of (get_or xs i none))
    else conversion_for (conversions_of (drop (i + 1) xs)) name)
    (sym c.is_same.ensures ∙ c.if-is_same.false)

pub returns : goal.returns
returns c =
    c.loop-one.invariant
    ∙ at_drop_all (λ (more : List Given). conversion_for (conversions_of more) c.args.name.now)
    c.args.list.now c.loop-one.one-index (omega arith)
