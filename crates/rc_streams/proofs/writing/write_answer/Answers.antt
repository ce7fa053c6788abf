use Rattle.std.proofs.Common.{◌≡◌, inl, inr, ◌++◌, take, arith}
use Rattle.std.proofs.KnownBytes.{Appends-kept, Appends-trans}
use Rattle.rc_streams.proofs.InputLemmas.{AppendsFront-last, AppendsFront-split, front_moves}
use Rattle.rc_streams.proofs.writing.write_answer.Goals as goal

pub loop-rest-preserved : goal.loop-rest-preserved
loop-rest-preserved g c =
    let inv = c.loop-rest.invariant in
    let rest = c.loop-rest.rest.now in
    let count = c.in-Ok.count in
    record {
      done = inv.done ++ take count rest;
      split = front_moves _ inv.done rest count inv.split;
      written = Appends-trans _ _ _ _ _ inv.written c.in-Ok.ensures.bytes;
      sound = λ failed. elim (c.in-Ok.ensures.failed.0 failed) [
        | inl was ↦ inv.sound was
        | inr none ↦ let zero : c.in-Ok.count ≡ 0 = none.0 in absurd (omega arith)
      ];
    }

pub returns-in_default-clause-front : goal.returns-in_default-clause-front
returns-in_default-clause-front g c =
    let inv = c.loop-rest.invariant in
    AppendsFront-last _ _ _ _ inv.done _ inv.split inv.written
    (c.in-Ok.count, c.in-Ok.ensures.bytes)

pub returns-in_default-2-clause-front : goal.returns-in_default-2-clause-front
returns-in_default-2-clause-front g c =
    let inv = c.loop-rest.invariant in
    AppendsFront-split _ _ _ inv.done _ inv.split
    (Appends-kept _ _ _ _ inv.written c.in_default.ensures.bytes)

pub returns-in-Ok-flush-clause-front : goal.returns-in-Ok-flush-clause-front
returns-in-Ok-flush-clause-front g c =
    let inv = c.loop-rest.invariant in
    AppendsFront-split _ _ _ inv.done _ inv.split
    (Appends-kept _ _ _ _ inv.written c.in-Ok-flush.ensures.bytes)

pub returns-in-Err-clause-front : goal.returns-in-Err-clause-front
returns-in-Err-clause-front g c =
    let inv = c.loop-rest.invariant in
    AppendsFront-split _ _ _ inv.done _ inv.split
    (Appends-kept _ _ _ _ inv.written c.in-Err.ensures.bytes)
