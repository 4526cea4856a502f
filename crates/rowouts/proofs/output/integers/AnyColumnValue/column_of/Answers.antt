use Rattle.std.proofs.Common.{◌≡◌, ap, map, Some}
use Rattle.coltypes.specs.declared.dtype.Nullability.TheVariants.{NonNullable}
use Rattle.coltypes.specs.declared.validity.Validity.TheVariants as v
use Rattle.coltypes.specs.Cell.{number}
use Rattle.coltypes.specs.LogicalType.{primitive}
use Rattle.colbase.specs.Arrays.{column, primitive as primitive_array}
use Rattle.rowouts.specs.Outputs.{full_column}
use Rattle.rowouts.proofs.Columns.{built, column-numbers}
use Rattle.rowouts.proofs.output.integers.AnyColumnValue.column_of.Goals as goal

pub returns-clause-column : goal.returns-clause-column
returns-clause-column g c =
    let w = g.T.NativeInt.stored c.args.values.items in
    let laws = g.met.T.NativeInt in
    built
    (λ a. column a ≡ full_column (primitive g.T.NativeInt.ptype NonNullable) (map (λ x. number (g.T.NativeInt.number x)) c.args.values.items))
    c.try_new.result
    (primitive_array w v.NonNullable)
    (rw c.in_ok-from_vec.ensures.values at c.try_new.ensures)
    (column-numbers w g.T.NativeInt.ptype (λ x. number (g.T.NativeInt.number x)) c.args.values.items (laws.typed c.args.values.items) (laws.counted c.args.values.items) (λ i x e. ap (λ z. Some (number z)) (laws.numbered c.args.values.items i x e)))
