use Rattle.std.proofs.Common.{ℕ, ◌<◌}
use Rattle.std.specs.Prelude.{IsTrue}
use Rattle.coltypes.specs.Fits.{in_range}
use Rattle.coltypes.specs.Values.{number_at}
use Rattle.rowelems.proofs.element.integer.checks.Given as goal

abbrev pub invariant-loop-value : goal.invariant-loop-value
invariant-loop-value g l = (i : ℕ) → i < l.value-index → IsTrue (in_range g.T.NativeInt.ptype (number_at (g.T.NativeInt.stored l.values) i))
