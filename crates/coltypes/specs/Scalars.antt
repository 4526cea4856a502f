-- What a scalar is: a type and an optional cell of that type.
use Rattle.std.specs.Prelude.{◌≡◌, List, Option, Some, None, option_map, All}
use Rattle.coltypes.specs.declared.dtype.Nullability.{Nullability}
use Rattle.coltypes.specs.declared.dtype.Nullability.TheVariants as n
use Rattle.coltypes.specs.declared.scalar.ScalarValue.{ScalarValue}
use Rattle.coltypes.specs.declared.validity.Validity.{Validity}
use Rattle.coltypes.specs.declared.validity.Validity.TheVariants as v
use Rattle.coltypes.specs.declared.scalar.Scalar.{Scalar}
use Rattle.coltypes.specs.Cell.{Cell}
use Rattle.coltypes.specs.CellOf.{cell_of}
use Rattle.coltypes.specs.LogicalType.{LogicalType}
use Rattle.coltypes.specs.LogicalTypeOf.{logical_type}

abbrev pub scalar_type : Scalar → LogicalType
scalar_type s = logical_type s.dtype

abbrev pub scalar_cell : Scalar → Option Cell
scalar_cell s = option_map cell_of s.value

abbrev pub AllOfType : LogicalType → List Scalar → Type 0
AllOfType t scalars = All (λ s. scalar_type s ≡ t) scalars

-- no row is null
abbrev pub no_nulls : Nullability → Validity
no_nulls n.NonNullable = v.NonNullable
no_nulls n.Nullable = v.AllValid

-- each row of a constant is null, or none
abbrev pub constant_validity : Option ScalarValue → Nullability → Validity
constant_validity None n = v.AllInvalid
constant_validity (Some x) n = no_nulls n
