-- When two types, cells or scalars are equal, and what a scalar feeds a hasher.
use Rattle.std.specs.Prelude.{Bool, true, false, ◌≡◌, ◌&&◌, ◌==◌, ◌++◌, [], Option, Some, None}
use Rattle.std.specs.Option.{option_eq}
use Rattle.std.specs.Bool.{beq}
use Rattle.std.specs.Ordering.{int_eq}
use Rattle.std.specs.Cmp.Lexicographic.{pointwise}
use Rattle.std.specs.Hash as fed
use Rattle.std.specs.Hash.{HashWrites}
use Rattle.coltypes.specs.declared.dtype.PType.{PType}
use Rattle.coltypes.specs.declared.dtype.PType.TheVariants.{I8, I16, I32, I64, U8, U16, U32, U64}
use Rattle.coltypes.specs.declared.dtype.Nullability.{Nullability}
use Rattle.coltypes.specs.declared.dtype.Nullability.TheVariants.{Nullable, NonNullable}
use Rattle.coltypes.specs.declared.dtype.TimeUnit.{TimeUnit}
use Rattle.coltypes.specs.declared.dtype.TimeUnit.TheVariants.{Nanoseconds, Microseconds, Milliseconds, Seconds, Days}
use Rattle.coltypes.specs.declared.scalar.Scalar.{Scalar}
use Rattle.coltypes.specs.LogicalType.{LogicalType, null, bool, primitive, utf8, binary, list, fixed_size_list, extension, ignore_nullability}
use Rattle.coltypes.specs.Cell.{Cell, Cells, truth, number, bytes, list as list_cell, no_cells, null_then, cell_then}
use Rattle.coltypes.specs.Fits.{count_of}
use Rattle.coltypes.specs.Scalars.{scalar_cell, scalar_type}

abbrev pub same_ptype : PType → PType → Bool
same_ptype I8 I8 = true
same_ptype I16 I16 = true
same_ptype I32 I32 = true
same_ptype I64 I64 = true
same_ptype U8 U8 = true
same_ptype U16 U16 = true
same_ptype U32 U32 = true
same_ptype U64 U64 = true
same_ptype _ _ = false

abbrev pub same_nullability : Nullability → Nullability → Bool
same_nullability Nullable Nullable = true
same_nullability NonNullable NonNullable = true
same_nullability _ _ = false

abbrev pub same_unit : TimeUnit → TimeUnit → Bool
same_unit Nanoseconds Nanoseconds = true
same_unit Microseconds Microseconds = true
same_unit Milliseconds Milliseconds = true
same_unit Seconds Seconds = true
same_unit Days Days = true
same_unit _ _ = false

-- whether the two are one type, nullability included
abbrev pub same_type : LogicalType → LogicalType → Bool
same_type null null = true
same_type (bool n) (bool m) = same_nullability n m
same_type (primitive p n) (primitive q m) = same_ptype p q && same_nullability n m
same_type (utf8 n) (utf8 m) = same_nullability n m
same_type (binary n) (binary m) = same_nullability n m
same_type (list t n) (list u m) = same_type t u && same_nullability n m
same_type (fixed_size_list t v n) (fixed_size_list u w m) = same_type t u && ((v == w) && same_nullability n m)
same_type (extension a x c t) (extension b y d u) = pointwise ◌==◌ a b && (option_eq same_unit x y && (option_eq (pointwise ◌==◌) c d && same_type t u))
same_type _ _ = false

abbrev mutual
  -- whether the two are one cell
  pub same_cell : Cell → Cell → Bool
  same_cell (truth a) (truth b) = beq a b
  same_cell (number a) (number b) = int_eq a b
  same_cell (bytes a) (bytes b) = pointwise ◌==◌ a b
  same_cell (list_cell a) (list_cell b) = same_cells a b
  same_cell _ _ = false

  pub same_cells : Cells → Cells → Bool
  same_cells no_cells no_cells = true
  same_cells (null_then a) (null_then b) = same_cells a b
  same_cells (cell_then c a) (cell_then d b) = same_cell c d && same_cells a b
  same_cells _ _ = false

-- one optional cell, and one type but for the nullability at each level
abbrev pub SameScalars : Scalar → Scalar → Type 0
SameScalars a b = (scalar_cell a ≡ scalar_cell b) × (ignore_nullability (scalar_type a) ≡ ignore_nullability (scalar_type b))

-- the same as a test
abbrev pub same_scalar : Scalar → Scalar → Bool
same_scalar a b = option_eq same_cell (scalar_cell a) (scalar_cell b) && same_type (ignore_nullability (scalar_type a)) (ignore_nullability (scalar_type b))

abbrev mutual
  -- which form the cell has, and then the value. A list gives its length and each optional cell
  pub cell_input : Cell → HashWrites
  cell_input (truth b) = fed.u8 0 ++ fed.bool b
  cell_input (number n) = fed.u8 1 ++ fed.i128 n
  cell_input (bytes xs) = fed.u8 2 ++ fed.slice fed.u8 xs
  cell_input (list_cell cs) = fed.u8 3 ++ (fed.usize (count_of cs) ++ cells_input cs)

  pub cells_input : Cells → HashWrites
  cells_input no_cells = []
  cells_input (null_then more) = fed.u8 0 ++ cells_input more
  cells_input (cell_then c more) = (fed.u8 1 ++ cell_input c) ++ cells_input more

-- whether there is a cell, and then the cell
abbrev pub optional_input : Option Cell → HashWrites
optional_input None = fed.u8 0
optional_input (Some c) = fed.u8 1 ++ cell_input c
