use Rattle.std.proofs.Common.{◌≡◌, length, All, []}
use Rattle.rc_historytext.specs.Text.{IsGenerationText, oldest_renames}
use Rattle.rc_historytext.specs.Standing.{GenerationsStand}
use Rattle.rc_historytext.proofs.read.generations_of.Given as goal

-- so many so far, and their lines in front of the rest
abbrev pub invariant-loop-place : goal.invariant-loop-place
invariant-loop-place l = record {
  count : length l.generations.items ≡ l.place;
  each : All IsGenerationText l.generations.items;
  oldest : oldest_renames l.generations.items ≡ [];
  front : GenerationsStand l.bytes l.generations.items l.rest;
}
