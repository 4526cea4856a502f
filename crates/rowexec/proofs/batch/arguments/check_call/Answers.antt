use Rattle.std.proofs.Common.{sym}
use Rattle.rowexec.specs.Rows.{types_of}
use Rattle.rowexec.proofs.Arguments.{fits_as}
use Rattle.rowexec.proofs.batch.arguments.check_call.Goals as goal

pub returns : goal.returns
returns g c =
    let columns = c.args.args.now.columns in
    fits_as _ (g.F.RowSpec.law c.args._options.now (types_of columns)).arity c.args.args.now.row_count columns _ (sym (g.met.F.RowSpec.lawful c.args._options.now (types_of columns)).arity_is) c.check_arguments.ensures
