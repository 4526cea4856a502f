use Rattle.std.proofs.Common.{◌≡◌, map, take}
use Rattle.std.specs.Prelude.{option_map}
use Rattle.coltypes.specs.CellOf.{cell_of}
use Rattle.coltypes.proofs.scalar.equal.+same.Given as goal

abbrev pub invariant-same_values-loop-i : goal.invariant-same_values-loop-i
invariant-same_values-loop-i l = map (option_map cell_of) (take l.i l.xs) ≡ map (option_map cell_of) (take l.i l.ys)
