use Rattle.std.proofs.Common.{◌++◌, take}
use Rattle.std.proofs.KnownBytes.{Appends-kept, Appends-trans}
use Rattle.rc_streams.proofs.InputLemmas.{AppendsFront-last, AppendsFront-split, front_moves}
use Rattle.rc_streams.proofs.input.write_every.Goals as goal

pub loop-rest-preserved : goal.loop-rest-preserved
loop-rest-preserved g c =
    let (done, split, written) = c.loop-rest.invariant in
    let rest = c.loop-rest.rest.now in
    let count = c.in_ok-count.count in (
      done ++ take count rest,
      front_moves _ done rest count split,
      Appends-trans _ _ _ _ _ written c.in_ok-count.ensures.bytes,
    )

pub returns-in_err-count-clause-front : goal.returns-in_err-count-clause-front
returns-in_err-count-clause-front g c =
    let (done, split, written) = c.loop-rest.invariant in
    AppendsFront-split _ _ _ done _ split
    (Appends-kept _ _ _ _ written c.in_err-count.ensures.bytes)

pub returns-in-0-clause-front : goal.returns-in-0-clause-front
returns-in-0-clause-front g c =
    let (done, split, written) = c.loop-rest.invariant in
    AppendsFront-last _ _ _ _ done _ split written
    (c.in_ok-count.count, c.in_ok-count.ensures.bytes)

pub returns-clause-front : goal.returns-clause-front
returns-clause-front g c =
    let (done, split, written) = c.loop-rest.invariant in
    AppendsFront-split _ _ _ done _ split written
