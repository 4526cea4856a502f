use Rattle.rowjson.proofs.Exact.{truth_made}
use Rattle.rowjson.proofs.column.scalars.truth_of.Goals as goal

pub returns : goal.returns
returns c = truth_made c.bool.result c.args.truth c.args.nullability c.bool.ensures.dtype c.bool.ensures.value
