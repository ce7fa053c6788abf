use Rattle.std.proofs.Common.{map, take, All, Contains}
use Rattle.rc_args.specs.Reading.{listed_of}
use Rattle.rc_cli.specs.Finding.{AreFound}
use Rattle.rc_cli.proofs.sessions.failing.gate_of.Given as goal

-- the transitions so far are found
abbrev pub invariant-loop-one : goal.invariant-loop-one
invariant-loop-one l =
    let all = take l.one-index (map listed_of l.listed) in
    record {
      found : AreFound l.names all l.failing.items;
      known : All (λ known. Contains l.names known.name) all;
    }
