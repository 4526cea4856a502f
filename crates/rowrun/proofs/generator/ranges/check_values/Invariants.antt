use Rattle.std.proofs.Common.{ℕ, ◌<◌}
use Rattle.std.specs.Prelude.{IsTrue}
use Rattle.coltypes.specs.Fits.{in_range}
use Rattle.coltypes.specs.Values.{number_at, ptype_of}
use Rattle.rowrun.proofs.generator.ranges.check_values.Given as goal

abbrev pub invariant-loop-i : goal.invariant-loop-i
invariant-loop-i l = (k : ℕ) → k < l.i → IsTrue (in_range (ptype_of l.values) (number_at l.values k))
