use Rattle.std.proofs.Common.{◌≡◌, ◌++◌}
use Rattle.std.specs.List.{flat_map}
use Rattle.bitlane.specs.Bits.{tabulate}
use Rattle.colbase.specs.Arrays.{dtype, row}
use Rattle.rowjson.specs.Text.{line, cell_text}
use Rattle.rowjson.proofs.print.push_stored.Given as goal

abbrev pub invariant-loop-i : goal.invariant-loop-i
invariant-loop-i l = l.out.items ≡ l.initial.out.items ++ flat_map (λ cell. line (cell_text (dtype l.array) cell)) (tabulate (row l.array) l.i)
