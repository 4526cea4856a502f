-- The scalars that JSON values state. A scalar holds the proof that its value is of its type, so it is made from the test of that.
use Rattle.std.specs.Prelude.{◌≡◌, Bool, true, false, Option, Some, None, option_map, refl}
use Rattle.serde_json.specs.Data.{Data}
use Rattle.serde_json.specs.Find.{as_bool, as_number, as_integer}
use Rattle.coltypes.specs.declared.dtype.DType.{DType}
use Rattle.coltypes.specs.declared.scalar.Scalar.{Scalar}
use Rattle.coltypes.specs.declared.scalar.ScalarValue.{ScalarValue}
use Rattle.coltypes.specs.declared.scalar.ScalarValue.TheVariants.{Bool as Truth, Int}
use Rattle.coltypes.specs.CellOf.{cell_of}
use Rattle.coltypes.specs.Fits.{fits_type}
use Rattle.coltypes.specs.LogicalType.{LogicalType, bool, primitive, extension}
use Rattle.coltypes.specs.LogicalTypeOf.{logical_type}
use Rattle.rowjson.specs.DtypeOf.{dtype_of}
use Rattle.rowjson.specs.Objects.{◌>>=◌, value_or_null}

-- whether the value, or the null, is of the type: a number is in its range, and a null's type is nullable
abbrev pub is_of_type : DType → Option ScalarValue → Bool
is_of_type t v = fits_type (option_map cell_of v) (logical_type t)

abbrev pub scalar_if : (t : DType) (v : Option ScalarValue) (b : Bool) → is_of_type t v ≡ b → Option Scalar
scalar_if t v true fits = Some (record { dtype = t; value = v; lawful = fits })
scalar_if t v false fits = None

-- the scalar of this type and value, where the value is of the type
unfoldable pub scalar_of : DType → Option ScalarValue → Option Scalar
scalar_of t v = scalar_if t v (is_of_type t v) refl

-- what is stated under a type, in or out of its range; an extension has the values of its storage
abbrev pub value_under : LogicalType → Data → Option ScalarValue
value_under (bool n) d = option_map Truth (as_bool d)
value_under (primitive p n) d = option_map Int (as_number d >>= as_integer)
value_under (extension name unit time_zone t) d = value_under t d
value_under _ d = None

-- the scalar of this type that is stated
unfoldable pub scalar_in : LogicalType → Data → Option Scalar
scalar_in t d = value_or_null (value_under t) d >>= scalar_of (dtype_of t)
