use Rattle.std.proofs.Common.{◌∙◌}
use Rattle.coltypes.specs.LogicalTypeOf.{extension_type}
use Rattle.rowjson.proofs.ExactTypes.{dtype_from, extension_exact}
use Rattle.rowjson.proofs.column.scalars.under_name.Goals as goal

pub returns-clause-dtype : goal.returns-clause-dtype
returns-clause-dtype c = dtype_from c.extension.result.dtype (extension_type c.args.ext) c.extension.ensures.dtype ∙ extension_exact c.args.ext
