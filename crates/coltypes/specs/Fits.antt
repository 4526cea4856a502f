-- Whether an optional cell is a value of a type.
use Rattle.std.specs.Prelude.{ℕ, suc, ◌^◌, ℤ, pos, negsuc, Bool, true, false, ◌&&◌, Option, Some, None, nat_lt, nat_eq}
use Rattle.coltypes.specs.declared.dtype.PType.{PType}
use Rattle.coltypes.specs.declared.dtype.PType.TheVariants.{I8, I16, I32, I64, U8, U16, U32, U64}
use Rattle.coltypes.specs.declared.dtype.Nullability.{Nullability}
use Rattle.coltypes.specs.declared.dtype.Nullability.TheVariants.{Nullable, NonNullable}
use Rattle.coltypes.specs.LogicalType.{LogicalType, null, bool, primitive, utf8, binary, list, fixed_size_list, extension, nullability_of}
use Rattle.coltypes.specs.Cell.{Cell, Cells, truth, number, bytes, list as list_cell, no_cells, null_then, cell_then}

abbrev pub is_nullable : Nullability → Bool
is_nullable Nullable = true
is_nullable NonNullable = false

-- from minus the limit up to below the limit
abbrev pub within_signed : ℕ → ℤ → Bool
within_signed limit (pos n) = nat_lt n limit
within_signed limit (negsuc n) = nat_lt n limit

-- from zero up to below the limit
abbrev pub within_unsigned : ℕ → ℤ → Bool
within_unsigned limit (pos n) = nat_lt n limit
within_unsigned limit (negsuc n) = false

abbrev pub in_range : PType → ℤ → Bool
in_range I8 z = within_signed (2 ^ 7) z
in_range I16 z = within_signed (2 ^ 15) z
in_range I32 z = within_signed (2 ^ 31) z
in_range I64 z = within_signed (2 ^ 63) z
in_range U8 z = within_unsigned (2 ^ 8) z
in_range U16 z = within_unsigned (2 ^ 16) z
in_range U32 z = within_unsigned (2 ^ 32) z
in_range U64 z = within_unsigned (2 ^ 64) z

-- the type of what is stored, below each extension
abbrev pub storage_type : LogicalType → LogicalType
storage_type (extension name unit time_zone t) = storage_type t
storage_type t = t

abbrev pub takes_truth : LogicalType → Bool
takes_truth (bool n) = true
takes_truth _ = false

abbrev pub takes_number : LogicalType → ℤ → Bool
takes_number (primitive p n) z = in_range p z
takes_number _ z = false

abbrev pub takes_bytes : LogicalType → Bool
takes_bytes (utf8 n) = true
takes_bytes (binary n) = true
takes_bytes _ = false

abbrev pub takes_count : LogicalType → ℕ → Bool
takes_count (list t n) count = true
takes_count (fixed_size_list t width n) count = nat_eq count width
takes_count _ count = false

abbrev pub element_type : LogicalType → LogicalType
element_type (list t n) = t
element_type (fixed_size_list t width n) = t
element_type t = null

abbrev pub count_of : Cells → ℕ
count_of no_cells = 0
count_of (null_then more) = suc (count_of more)
count_of (cell_then c more) = suc (count_of more)

abbrev mutual
  -- an extension takes what its storage takes, text takes any bytes, and a list takes values of its element type
  pub fits : LogicalType → Cell → Bool
  fits t (truth b) = takes_truth (storage_type t)
  fits t (number z) = takes_number (storage_type t) z
  fits t (bytes xs) = takes_bytes (storage_type t)
  fits t (list_cell cs) = takes_count (storage_type t) (count_of cs) && all_fit (element_type (storage_type t)) cs

  pub all_fit : LogicalType → Cells → Bool
  all_fit t no_cells = true
  all_fit t (null_then more) = is_nullable (nullability_of t) && all_fit t more
  all_fit t (cell_then c more) = fits t c && all_fit t more

-- a null is a value of each nullable type
abbrev pub fits_type : Option Cell → LogicalType → Bool
fits_type None t = is_nullable (nullability_of t)
fits_type (Some c) t = fits t c
