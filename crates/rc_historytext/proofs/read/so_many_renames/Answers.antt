use Rattle.std.proofs.Common.{◌≡◌, ◌∷◌, ◌-◌, ◌+◌, ◌++◌, [], arith, rules}
use Rattle.rc_historytext.proofs.Reading.{more_renames, renames_more, no_more_renames}
use Rattle.rc_historytext.proofs.read.so_many_renames.Goals as goal

pub returns-in_default-clause-fault : goal.returns-in_default-clause-fault
returns-in_default-clause-fault c = λ more.
    no_more_renames c.args.bytes.now c.loop.rest.now c.loop.renames.items c.loop.counter
    c.args.count more c.loop.invariant.are c.loop.invariant.front (omega arith)
    (c.in_default.ensures (c.args.count - (c.loop.counter + 1)) more)

pub loop-preserved : goal.loop-preserved
loop-preserved c =
    let pushed : c.push.new.self.items ≡ c.loop.renames.items ++ c.in-Some.rename ∷ [] =
    search rules in
    record {
      are =
          renames_more c.loop.counter c.loop.renames.items c.push.new.self.items c.in-Some.rename
          c.loop.invariant.are c.in-Some.ensures.0 pushed;
      front =
          more_renames c.args.bytes.now c.loop.rest.now c.in-Some.behind.now
          c.loop.renames.items c.push.new.self.items c.in-Some.rename c.loop.invariant.front
          c.in-Some.ensures.1 pushed;
    }
