use Rattle.coltypes.specs.LogicalType.{nullability_of}
use Rattle.coltypes.specs.LogicalTypeOf.{logical_type}
use Rattle.rowjson.proofs.Exact.{null_made, null_refused, not_nullable}
use Rattle.rowjson.proofs.column.scalars.null_of.Goals as goal

pub returns-then-is_nullable : goal.returns-then-is_nullable
returns-then-is_nullable c = null_made c.null.result c.args.dtype c.null.ensures.dtype c.null.ensures.value

pub returns-else-is_nullable : goal.returns-else-is_nullable
returns-else-is_nullable c = null_refused c.args.dtype (not_nullable (nullability_of (logical_type c.args.dtype)) c.is_nullable.result c.is_nullable.ensures c.if-is_nullable.false)
