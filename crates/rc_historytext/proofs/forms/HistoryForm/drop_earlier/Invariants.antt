use Rattle.std.proofs.Common.{◌≡◌, ◌+◌, ◌<◌, [], drop, length}
use Rattle.rc_historytext.specs.Text.{oldest_renames}
use Rattle.rc_historytext.specs.Moves.{as_oldest}
use Rattle.rc_historytext.proofs.forms.HistoryForm.drop_earlier.Given as goal

-- so many were dropped, and those from the present one on are the same
abbrev pub invariant-loop : goal.invariant-loop
invariant-loop l = record {
  place : l.self.present + l.counter ≡ l.fn.self.present;
  there : l.self.present < length l.self.generations;
  none : oldest_renames l.self.generations ≡ [];
  same : as_oldest (drop l.self.present l.self.generations)
      ≡ as_oldest (drop l.fn.self.present l.fn.self.generations);
}
