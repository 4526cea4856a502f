-- The text of the storage type of an extension that is printed.
use Rattle.std.proofs.Common.{◌≡◌, ℕ, true, List, Option, refl}
use Rattle.coltypes.specs.declared.dtype.TimeUnit.{TimeUnit}
use Rattle.coltypes.specs.LogicalType.{LogicalType, null, bool, primitive, utf8, binary, list, fixed_size_list, extension, nullability_of}
use Rattle.coltypes.specs.declared.dtype.PType.TheVariants.{I8, I16, I32, I64, U8, U16, U32, U64}
use Rattle.rowjson.specs.Text.{is_i64, is_printed, type_text}

-- an integer type of 64 bits is told by its nullability
wide_text : (t : LogicalType) → is_i64 t ≡ true → type_text (primitive I64 (nullability_of t)) ≡ type_text t
wide_text null e = cc
wide_text (bool n) e = cc
wide_text (primitive I8 n) e = cc
wide_text (primitive I16 n) e = cc
wide_text (primitive I32 n) e = cc
wide_text (primitive I64 n) e = refl
wide_text (primitive U8 n) e = cc
wide_text (primitive U16 n) e = cc
wide_text (primitive U32 n) e = cc
wide_text (primitive U64 n) e = cc
wide_text (utf8 n) e = cc
wide_text (binary n) e = cc
wide_text (list t n) e = cc
wide_text (fixed_size_list t width n) e = cc
wide_text (extension name unit time_zone t) e = cc

-- so is the storage of an extension that is printed
pub stored_text : (name : List ℕ) (unit : Option TimeUnit) (time_zone : Option (List ℕ)) (t : LogicalType) → is_printed (extension name unit time_zone t) ≡ true → type_text (primitive I64 (nullability_of t)) ≡ type_text t
stored_text name unit time_zone t e = wide_text t e
