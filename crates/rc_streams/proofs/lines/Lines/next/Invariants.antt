-- What was handed out so far is the line.
use Rattle.std.proofs.Common.{◌≡◌, ◌⊎◌, ◌-◌}
use Rattle.rc_streams.specs.Noting.{HasFailed, inner_of}
use Rattle.rc_streams.specs.Taking.{HandsOut, IsLine, IsOneLine}
use Rattle.rc_streams.proofs.lines.Lines.next.Given as goal

abbrev pub invariant-loop-line : goal.invariant-loop-line
invariant-loop-line g l = record {
  sound : HasFailed l.reader → ⊥;
  one : IsLine l.line.items;
  waits : IsOneLine l.initial.self.pending
      ⊎ ((l.self ≡ l.initial.self) × (l.reader ≡ l.initial.reader));
  hands : HandsOut (g.R.Read.remaining (inner_of l.initial.reader))
      (g.R.Read.remaining (inner_of l.reader)) l.initial.self l.self l.line.items;
}

abbrev pub decreases-loop-line : goal.decreases-loop-line
decreases-loop-line g l = 16777218 - l.self.taken
