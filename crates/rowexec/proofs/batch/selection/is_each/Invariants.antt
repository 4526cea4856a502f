use Rattle.std.proofs.Common.{◌≡◌, ◌<◌, ℕ}
use Rattle.bitlane.specs.Bits.{bit}
use Rattle.rowexec.proofs.batch.selection.is_each.Given as goal

abbrev pub invariant-loop-index : goal.invariant-loop-index
invariant-loop-index l = (k : ℕ) → k < l.index → bit l.bits k ≡ l.mark
