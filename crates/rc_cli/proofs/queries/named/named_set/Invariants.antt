use Rattle.std.proofs.Common.{◌≡◌, length, map, take}
use Rattle.rc_model.specs.Names.{Holds}
use Rattle.rc_cli.specs.Named.{IsNamed, AreNamed}
use Rattle.rc_cli.proofs.queries.named.named_set.Given as goal

-- the words so far are known, and the set has those that they name
abbrev pub invariant-loop-word : goal.invariant-loop-word
invariant-loop-word l =
    let words = take l.word-index (map (λ w. w.now) l.words) in
    record {
      bound : length l.set ≡ length l.names;
      members : Holds l.set (IsNamed l.names words);
      known : AreNamed l.names words;
    }
