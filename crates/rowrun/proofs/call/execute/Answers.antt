use Rattle.std.proofs.Common.{refl}
use Rattle.rowexec.specs.Rows.{types_of}
use Rattle.rowsample.specs.Functions.{checked_adds, rescales, truncates, wrapping_adds}
use Rattle.rowrun.specs.declared.batch.Call.TheVariants.{WrappingAdd, CheckedAdd, Rescale, Truncate}
use Rattle.rowrun.proofs.Lifted.{of_call, result_column}
use Rattle.rowrun.proofs.Printed.{numbers_stated, truncations_printed}
use Rattle.rowrun.proofs.call.execute.Goals as goal

pub returns-in-WrappingAdd-clause-column : goal.returns-in-WrappingAdd-clause-column
returns-in-WrappingAdd-clause-column g c =
    let args = c.args.batch.now.args in
    of_call c.args.batch.now.call WrappingAdd args.row_count args.columns c.execute.result c.in-WrappingAdd.is (result_column wrapping_adds args.row_count args.columns c.execute.result c.execute.ensures.executes)

pub returns-in-CheckedAdd-clause-column : goal.returns-in-CheckedAdd-clause-column
returns-in-CheckedAdd-clause-column g c =
    let args = c.args.batch.now.args in
    of_call c.args.batch.now.call CheckedAdd args.row_count args.columns c.execute-in-CheckedAdd.result c.in-CheckedAdd.is (result_column checked_adds args.row_count args.columns c.execute-in-CheckedAdd.result c.execute-in-CheckedAdd.ensures.executes)

pub returns-in-Rescale-clause-column : goal.returns-in-Rescale-clause-column
returns-in-Rescale-clause-column g c =
    let args = c.args.batch.now.args in
    of_call c.args.batch.now.call Rescale args.row_count args.columns c.execute-in-Rescale.result c.in-Rescale.is (result_column rescales args.row_count args.columns c.execute-in-Rescale.result c.execute-in-Rescale.ensures.executes)

pub returns-in-Truncate-clause-column : goal.returns-in-Truncate-clause-column
returns-in-Truncate-clause-column g c =
    let args = c.args.batch.now.args in
    of_call c.args.batch.now.call (Truncate c.in-Truncate.options) args.row_count args.columns c.execute-in-Truncate.result c.in-Truncate.is (result_column (truncates c.in-Truncate.options.ticks (types_of args.columns)) args.row_count args.columns c.execute-in-Truncate.result c.execute-in-Truncate.ensures.executes)

pub returns-in-Truncate-clause-printed : goal.returns-in-Truncate-clause-printed
returns-in-Truncate-clause-printed g c = truncations_printed c.in-Truncate.options.ticks (types_of c.args.batch.now.args.columns) c.execute-in-Truncate.result c.execute-in-Truncate.ensures.executes.dtype

pub returns-in-WrappingAdd-clause-printed : goal.returns-in-WrappingAdd-clause-printed
returns-in-WrappingAdd-clause-printed g c = numbers_stated wrapping_adds (types_of c.args.batch.now.args.columns) c.execute.result refl refl c.execute.ensures.executes.dtype

pub returns-in-CheckedAdd-clause-printed : goal.returns-in-CheckedAdd-clause-printed
returns-in-CheckedAdd-clause-printed g c = numbers_stated checked_adds (types_of c.args.batch.now.args.columns) c.execute-in-CheckedAdd.result refl refl c.execute-in-CheckedAdd.ensures.executes.dtype

pub returns-in-Rescale-clause-printed : goal.returns-in-Rescale-clause-printed
returns-in-Rescale-clause-printed g c = numbers_stated rescales (types_of c.args.batch.now.args.columns) c.execute-in-Rescale.result refl refl c.execute-in-Rescale.ensures.executes.dtype
