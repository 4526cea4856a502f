use Rattle.std.proofs.Common.{◌≡◌, ◌-◌, ◌≤◌, length}
use Rattle.std.specs.Prelude.{drop}
use Rattle.bitlane.specs.Bits.{true_indices_from}
use Rattle.bitlane.proofs.set_indices.SetIndicesIterator.next.Given as goal

abbrev pub invariant-loop-index : goal.invariant-loop-index
invariant-loop-index l = record {
  same : true_indices_from l.index (drop l.index l.bits) ≡ l.fn.self;
  within : l.index ≤ length l.bits;
}

abbrev pub decreases-loop-index : goal.decreases-loop-index
decreases-loop-index l = length l.bits - l.index
