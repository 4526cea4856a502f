use Rattle.std.proofs.Common.{◌≤◌, length, take, ◌-◌}
use Rattle.rowtext.specs.Bytes.{Grows}
use Rattle.rowtext.proofs.write.write_whole.Given as goal

abbrev pub invariant-loop-at : goal.invariant-loop-at
invariant-loop-at g l = record {
  within : l.at ≤ length l.bytes;
  grown : Grows (g.K.Sink.held l.fn.sink) (take l.at l.bytes) (g.K.Sink.held l.sink);
  counts : g.K.Sink.faults l.fn.sink ≤ g.K.Sink.faults l.sink;
}

abbrev pub decreases-loop-at : goal.decreases-loop-at
decreases-loop-at g l = length l.bytes - l.at
