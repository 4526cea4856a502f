use Rattle.std.proofs.Common.{◌≡◌, ℕ, ◌<◌, length, get_or}
use Rattle.rowouts.proofs.fill_default.fill_slice.Given as goal

abbrev pub invariant-loop-i : goal.invariant-loop-i
invariant-loop-i g l = record {
  many : length l.rows ≡ length l.initial.rows;
  each : (k : ℕ) (d : _) → k < l.i → g.T.Default.is_default (get_or l.rows k d);
}
