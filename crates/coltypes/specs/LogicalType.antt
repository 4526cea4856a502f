-- The types of columns, as plain data.
use Rattle.std.specs.Prelude.{ℕ, List, Option}
use Rattle.coltypes.specs.declared.dtype.PType.{PType}
use Rattle.coltypes.specs.declared.dtype.Nullability.{Nullability}
use Rattle.coltypes.specs.declared.dtype.Nullability.TheVariants.{Nullable}
use Rattle.coltypes.specs.declared.dtype.TimeUnit.{TimeUnit}

pub data LogicalType : Type 0 where
  null : LogicalType
  bool : Nullability → LogicalType
  primitive : PType → Nullability → LogicalType
  utf8 : Nullability → LogicalType
  binary : Nullability → LogicalType
  list : LogicalType → Nullability → LogicalType
  fixed_size_list : LogicalType → ℕ → Nullability → LogicalType
  extension : List ℕ → Option TimeUnit → Option (List ℕ) → LogicalType → LogicalType

-- an extension is nullable where its storage is
abbrev pub nullability_of : LogicalType → Nullability
nullability_of null = Nullable
nullability_of (bool n) = n
nullability_of (primitive p n) = n
nullability_of (utf8 n) = n
nullability_of (binary n) = n
nullability_of (list t n) = n
nullability_of (fixed_size_list t width n) = n
nullability_of (extension name unit time_zone t) = nullability_of t

-- the type made nullable or not, at its outer level alone
abbrev pub with_nullability : LogicalType → Nullability → LogicalType
with_nullability null to = null
with_nullability (bool n) to = bool to
with_nullability (primitive p n) to = primitive p to
with_nullability (utf8 n) to = utf8 to
with_nullability (binary n) to = binary to
with_nullability (list t n) to = list t to
with_nullability (fixed_size_list t width n) to = fixed_size_list t width to
with_nullability (extension name unit time_zone t) to = extension name unit time_zone (with_nullability t to)

-- the type made nullable at every level, so that two types agree here where they differ in nullability alone
abbrev pub ignore_nullability : LogicalType → LogicalType
ignore_nullability null = null
ignore_nullability (bool n) = bool Nullable
ignore_nullability (primitive p n) = primitive p Nullable
ignore_nullability (utf8 n) = utf8 Nullable
ignore_nullability (binary n) = binary Nullable
ignore_nullability (list t n) = list (ignore_nullability t) Nullable
ignore_nullability (fixed_size_list t width n) = fixed_size_list (ignore_nullability t) width Nullable
ignore_nullability (extension name unit time_zone t) = extension name unit time_zone (ignore_nullability t)
