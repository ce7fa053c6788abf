use Rattle.rc_historytext.specs.Standing.{AreRenames, RenamesStand}
use Rattle.rc_historytext.proofs.read.so_many_renames.Given as goal

-- so many so far, and their lines in front of the rest
abbrev pub invariant-loop : goal.invariant-loop
invariant-loop l = record {
  are : AreRenames l.counter l.renames.items;
  front : RenamesStand l.bytes l.renames.items l.rest;
}
