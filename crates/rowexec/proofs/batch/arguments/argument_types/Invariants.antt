use Rattle.std.proofs.Common.{◌≡◌, ◌++◌, drop}
use Rattle.rowtypes.specs.Rows.{logical_types}
use Rattle.rowexec.specs.Rows.{types_of}
use Rattle.rowexec.proofs.batch.arguments.argument_types.Given as goal

abbrev pub invariant-loop-column : goal.invariant-loop-column
invariant-loop-column l = logical_types l.types.items ++ types_of (drop l.column-index l.columns) ≡ types_of l.columns
