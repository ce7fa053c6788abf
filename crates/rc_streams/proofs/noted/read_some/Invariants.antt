-- An interrupted read takes nothing, is no failure, and is one more in a row.
use Rattle.std.proofs.Common.{◌≡◌, ◌-◌, length}
use Rattle.std.specs.Io.KnownBytes.{Keeps}
use Rattle.rc_streams.specs.Noting.{HasFailed, inner_of, interrupts_of}
use Rattle.rc_streams.proofs.noted.read_some.Given as goal

abbrev pub invariant-again : goal.invariant-again
invariant-again g l = record {
  sound : HasFailed l.reader → HasFailed l.initial.reader;
  kept : Keeps (g.R.Read.remaining (inner_of l.initial.reader))
      (g.R.Read.remaining (inner_of l.reader));
  long : length l.buffer ≡ length l.initial.buffer;
}

abbrev pub decreases-again : goal.decreases-again
decreases-again g l = 1001 - interrupts_of l.reader
