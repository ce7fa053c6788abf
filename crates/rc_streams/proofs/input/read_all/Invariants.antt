-- What is held is what was taken, and there is never more of it than the bound and a byte.
use Rattle.std.proofs.Common.{◌+◌, ◌-◌, ◌≤◌, vec_len}
use Rattle.std.specs.Io.KnownBytes.{Consumes}
use Rattle.rc_streams.specs.declared.input.TheConstants.{MAX_INPUT}
use Rattle.rc_streams.specs.Noting.{HasFailed, inner_of}
use Rattle.rc_streams.proofs.input.read_all.Given as goal

abbrev pub invariant-loop-bytes : goal.invariant-loop-bytes
invariant-loop-bytes g l = record {
  sound : HasFailed l.reader → HasFailed l.initial.reader;
  within : vec_len l.bytes ≤ MAX_INPUT + 1;
  held : Consumes (g.R.Read.remaining (inner_of l.initial.reader))
      (g.R.Read.remaining (inner_of l.reader)) l.bytes.items;
}

abbrev pub decreases-loop-bytes : goal.decreases-loop-bytes
decreases-loop-bytes g l = MAX_INPUT + 1 - vec_len l.bytes
