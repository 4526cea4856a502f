-- The program's type that a plain type is: the inverse of `logical_type`, for definitions that give scalars and extensions of the program.
use Rattle.std.specs.Prelude.{Option, Some, None}
use Rattle.coltypes.specs.declared.dtype.DType.{DType}
use Rattle.coltypes.specs.declared.dtype.DType.TheVariants as dtypes
use Rattle.coltypes.specs.declared.dtype.ExtDType.{ExtDType}
use Rattle.coltypes.specs.LogicalType.{LogicalType, null, bool, primitive, utf8, binary, list, fixed_size_list, extension}

abbrev pub dtype_of : LogicalType → DType
dtype_of null = dtypes.Null
dtype_of (bool n) = dtypes.Bool n
dtype_of (primitive p n) = dtypes.Primitive p n
dtype_of (utf8 n) = dtypes.Utf8 n
dtype_of (binary n) = dtypes.Binary n
dtype_of (list t n) = dtypes.List (dtype_of t) n
dtype_of (fixed_size_list t width n) = dtypes.FixedSizeList (dtype_of t) width n
dtype_of (extension name unit time_zone t) = dtypes.Extension (record { name = name; unit = unit; zone = time_zone; storage = dtype_of t })

abbrev pub ext_dtype_of : LogicalType → Option ExtDType
ext_dtype_of (extension name unit time_zone t) = Some (record { name = name; unit = unit; zone = time_zone; storage = dtype_of t })
ext_dtype_of _ = None
