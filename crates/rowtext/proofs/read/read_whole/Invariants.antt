use Rattle.std.proofs.Common.{◌≡◌, ◌≤◌, length, ◌-◌}
use Rattle.rowtext.specs.Bytes.{Takes}
use Rattle.rowtext.proofs.read.read_whole.Given as goal

abbrev pub invariant-loop-bytes : goal.invariant-loop-bytes
invariant-loop-bytes g l = record {
  taken : Takes (g.S.Source.left l.fn.source) l.bytes.items (g.S.Source.left l.source);
  fits : length l.bytes.items ≤ 67108864;
  size : length l.piece.items ≡ 65536;
  counts : g.S.Source.faults l.fn.source ≤ g.S.Source.faults l.source;
}

abbrev pub decreases-loop-bytes : goal.decreases-loop-bytes
decreases-loop-bytes g l = 67108865 - length l.bytes.items
