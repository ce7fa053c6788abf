use Rattle.std.proofs.Common.{◌≡◌, ◌+◌, ◌++◌, ◌∷◌, [], ℕ, List, map, take, drop, get_or, All}
use Rattle.std.proofs.Common.{Contains, sym, subst, refl}
use Rattle.rc_graph.specs.declared.Way.TheVariants.{Raise}
use Rattle.rc_args.specs.declared.transitions.Transition.{Transition}
use Rattle.rc_args.specs.Listed.{Listed}
use Rattle.rc_args.specs.Reading.{listed_of}
use Rattle.rc_cli.specs.Finding.{AreFound}
use Rattle.rc_cli.proofs.Found.{found_on, known_one}
use Rattle.rc_model.proofs.Mapped.{cut_at, mapped_more}
use Rattle.rc_cli.proofs.sessions.failing.gate_of.Goals as goal

-- what stands past the end of the transitions
abbrev none : Transition
none = record { way = Raise; name = record { ref_ptr = (0, 0); now = [] } }

pub returns-in-None-clause-fault : goal.returns-in-None-clause-fault
returns-in-None-clause-fault c =
    let i : ℕ = c.loop-one.one-index in
    let all : List Listed = map listed_of c.args.listed.now in (
      take i all,
      listed_of (get_or c.args.listed.now i none),
      drop (i + 1) all,
      cut_at listed_of c.args.listed.now i none c.loop-one-test.true,
      refl,
      c.loop-one.invariant.known,
      c.in-None.ensures.missing,
    )

pub loop-one-preserved : goal.loop-one-preserved
loop-one-preserved c =
    let i : ℕ = c.loop-one.one-index in
    let all : List Listed = map listed_of c.args.listed.now in
    let one : Transition = get_or c.args.listed.now i none in
    let more : take (i + 1) all ≡ take i all ++ listed_of one ∷ [] =
    mapped_more listed_of c.args.listed.now i none c.loop-one-test.true in
    record {
      found =
          subst (λ (l : List Listed). AreFound c.args.names.now l c.add.new.failing.items)
          (sym more)
          (subst (AreFound c.args.names.now (take i all ++ listed_of one ∷ []))
          (sym c.in_ok-add-in-Some.ensures)
          (found_on c.args.names.now (take i all) c.loop-one.failing.items (listed_of one)
          (c.in-Some.service, one.way) c.loop-one.invariant.found c.in-Some.ensures.found refl));
      known =
          subst (λ (l : List Listed). All (λ known. Contains c.args.names.now known.name) l)
          (sym more) (known_one c.args.names.now (take i all) (listed_of one) c.in-Some.service
          c.in-Some.ensures.found c.loop-one.invariant.known);
    }
