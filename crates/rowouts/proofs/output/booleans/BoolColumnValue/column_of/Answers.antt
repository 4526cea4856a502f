use Rattle.std.proofs.Common.{◌≡◌, map}
use Rattle.coltypes.specs.declared.dtype.Nullability.TheVariants.{NonNullable}
use Rattle.coltypes.specs.declared.validity.Validity.TheVariants as v
use Rattle.coltypes.specs.Cell.{truth}
use Rattle.coltypes.specs.LogicalType as t
use Rattle.colbase.specs.Arrays.{column, bool}
use Rattle.rowouts.specs.Outputs.{full_column}
use Rattle.rowouts.proofs.Columns.{built, column-truths}
use Rattle.rowouts.proofs.output.booleans.BoolColumnValue.column_of.Goals as goal

pub returns-clause-column : goal.returns-clause-column
returns-clause-column c =
    built
    (λ a. column a ≡ full_column (t.bool NonNullable) (map truth c.args.values.items))
    c.try_new.result
    (bool c.args.values.items v.NonNullable)
    (rw c.in_ok-bits.ensures at c.try_new.ensures)
    (column-truths c.args.values.items)
