use Rattle.std.proofs.Common.{◌∙◌, ◌≤◌, ◌+◌, ◌++◌, [], ℕ, List, get_or, length, map, take, ap, sym}
use Rattle.std.proofs.Common.{arith}
use Rattle.std.proofs.lemmas.List.{take_all, length-map}
use Rattle.rc_graph.specs.declared.Way.TheVariants.{Raise}
use Rattle.rc_args.specs.Listed.{Listed}
use Rattle.rc_args.specs.Reading.{listed_of}
use Rattle.rc_args.specs.declared.transitions.Transition.{Transition}
use Rattle.rc_model.proofs.Mapped.{mapped_more}
use Rattle.rc_cli.specs.Updating.{listed_by, listed_on}
use Rattle.rc_cli.proofs.UpdateLemmas.{listed_next}
use Rattle.rc_cli.proofs.updating.failing_on.Goals as goal

-- what stands past the end of the list
abbrev none : Transition
none = record { way = Raise; name = record { ref_ptr = (0, 0); now = [] } }

pub loop-one-preserved : goal.loop-one-preserved
loop-one-preserved c =
    let all : List Listed = map listed_of c.args.failing.now in
    let i : ℕ = c.loop-one.one-index in
    let one : Listed = listed_of (get_or c.args.failing.now i none) in
    c.in_ok-push_on.ensures
    ∙ (ap (λ those. those ++ listed_by c.args.way one.way one []) c.loop-one.invariant
    ∙ sym (listed_next c.args.way (take i all) (take (i + 1) all) one
    (mapped_more listed_of c.args.failing.now i none c.loop-one-test.true)))

pub returns : goal.returns
returns c =
    let past : length (map listed_of c.args.failing.now) ≤ c.loop-one.one-index =
    omega (arith, length-map c.args.failing.now listed_of) in
    c.loop-one.invariant ∙ ap (listed_on c.args.way) (take_all c.loop-one.one-index _ past)
