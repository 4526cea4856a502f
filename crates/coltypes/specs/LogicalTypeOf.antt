-- The plain type that a program's type is.
use Rattle.coltypes.specs.declared.dtype.DType.{DType, fold-DType}
use Rattle.coltypes.specs.declared.dtype.DType.TheOpen.{DType-F, ExtDType-F}
use Rattle.coltypes.specs.declared.dtype.ExtDType.{ExtDType}
use Rattle.coltypes.specs.LogicalType.{LogicalType, null, bool, primitive, utf8, binary, list, fixed_size_list, extension}

-- one level, with the plain types of the types inside in their places
abbrev pub type_step : DType-F LogicalType LogicalType → LogicalType
type_step DType-F.Null = null
type_step (DType-F.Bool n) = bool n
type_step (DType-F.Primitive p n) = primitive p n
type_step (DType-F.Utf8 n) = utf8 n
type_step (DType-F.Binary n) = binary n
type_step (DType-F.List t n) = list t n
type_step (DType-F.FixedSizeList t width n) = fixed_size_list t width n
type_step (DType-F.Extension e) = e

abbrev pub extension_step : ExtDType-F LogicalType LogicalType → LogicalType
extension_step e = extension e.name e.unit e.zone e.storage

abbrev pub logical_type : DType → LogicalType
logical_type = fold-DType LogicalType LogicalType type_step extension_step

abbrev pub extension_type : ExtDType → LogicalType
extension_type e = extension e.name e.unit e.zone (logical_type e.storage)
