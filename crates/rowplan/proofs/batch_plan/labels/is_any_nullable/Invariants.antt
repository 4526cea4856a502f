use Rattle.std.proofs.Common.{◌≡◌, drop}
use Rattle.rowtypes.specs.Rows.{logical_types}
use Rattle.rowplan.specs.Outputs.{any_nullable}
use Rattle.rowplan.proofs.batch_plan.labels.is_any_nullable.Given as goal

abbrev pub invariant-loop-dtype : goal.invariant-loop-dtype
invariant-loop-dtype l = any_nullable (logical_types l.types) ≡ any_nullable (logical_types (drop l.dtype-index l.types))
