-- The printed text of a type, of a cell and of a column.
use Rattle.std.specs.Prelude.{ℕ, ◌/◌, ◌%◌, ◌==◌, nat_lt, Bool, true, false, if◌then◌else◌, List, [], ◌∷◌, ◌++◌, Option, Some, None, codes, decimal}
use Rattle.std.specs.List.{flat_map, join_with_byte, slice_index}
use Rattle.std.specs.Str.{is_utf8}
use Rattle.std.specs.Fmt.{signed_decimal}
use Rattle.coltypes.specs.Cell.{Cell, truth, number, bytes, list, Cells, no_cells, null_then, cell_then}
use Rattle.colbase.specs.Column.{Column}
use Rattle.coltypes.specs.LogicalType.{LogicalType, null, bool, primitive, utf8, binary, fixed_size_list, extension}
use Rattle.coltypes.specs.LogicalType as t
use Rattle.coltypes.specs.Fits.{element_type, storage_type}
use Rattle.coltypes.specs.declared.dtype.PType.{PType}
use Rattle.coltypes.specs.declared.dtype.PType.TheVariants.{I8, I16, I32, I64, U8, U16, U32, U64}
use Rattle.coltypes.specs.declared.dtype.Nullability.{Nullability}
use Rattle.coltypes.specs.declared.dtype.Nullability.TheVariants.{Nullable, NonNullable}
use Rattle.coltypes.specs.declared.dtype.TimeUnit.{TimeUnit}
use Rattle.coltypes.specs.declared.dtype.TimeUnit.TheVariants.{Nanoseconds, Microseconds, Milliseconds, Seconds, Days}

-- ---- pieces

-- two lower-case hex digits
abbrev pub hex_byte : ℕ → List ℕ
hex_byte b = slice_index (codes "0123456789abcdef") (b / 16) ∷ slice_index (codes "0123456789abcdef") (b % 16) ∷ []

-- A byte of a quoted text. A character below U+0020 is one byte, and all other bytes but two stand for themselves.
abbrev pub escaped : ℕ → List ℕ
escaped b = if b == 34 then codes "\\\"" else if b == 92 then codes "\\\\" else if nat_lt b 32 then codes "\\u00" ++ hex_byte b else b ∷ []

abbrev pub quoted : List ℕ → List ℕ
quoted text = codes "\"" ++ (flat_map escaped text ++ codes "\"")

abbrev pub comma_joined : List (List ℕ) → List ℕ
comma_joined texts = join_with_byte 44 texts

abbrev pub line : List ℕ → List ℕ
line text = text ++ codes "\n"

-- ---- types

abbrev pub ptype_text : PType → List ℕ
ptype_text I8 = codes "i8"
ptype_text I16 = codes "i16"
ptype_text I32 = codes "i32"
ptype_text I64 = codes "i64"
ptype_text U8 = codes "u8"
ptype_text U16 = codes "u16"
ptype_text U32 = codes "u32"
ptype_text U64 = codes "u64"

abbrev pub nullability_text : Nullability → List ℕ
nullability_text NonNullable = []
nullability_text Nullable = codes "?"

abbrev pub unit_text : Option TimeUnit → List ℕ
unit_text None = codes "none"
unit_text (Some Nanoseconds) = codes "ns"
unit_text (Some Microseconds) = codes "us"
unit_text (Some Milliseconds) = codes "ms"
unit_text (Some Seconds) = codes "s"
unit_text (Some Days) = codes "D"

abbrev pub zone_text : Option (List ℕ) → List ℕ
zone_text None = codes "none"
zone_text (Some zone) = quoted zone

abbrev pub type_text : LogicalType → List ℕ
type_text null = codes "null"
type_text (bool n) = codes "bool" ++ nullability_text n
type_text (primitive p n) = ptype_text p ++ nullability_text n
type_text (utf8 n) = codes "utf8" ++ nullability_text n
type_text (binary n) = codes "binary" ++ nullability_text n
type_text (t.list t n) = codes "list(" ++ (type_text t ++ (codes ")" ++ nullability_text n))
type_text (fixed_size_list t width n) = codes "fixed(" ++ (comma_joined (decimal width ∷ type_text t ∷ []) ++ (codes ")" ++ nullability_text n))
type_text (extension name unit zone storage) =
    codes "ext(" ++ (comma_joined (quoted name ∷ unit_text unit ∷ zone_text zone ∷ type_text storage ∷ []) ++ codes ")")

-- ---- cells

abbrev pub truth_text : Bool → List ℕ
truth_text b = if b then codes "true" else codes "false"

abbrev pub utf8_text : List ℕ → List ℕ
utf8_text bs = if is_utf8 bs then quoted bs else codes "unreadable"

abbrev pub binary_text : List ℕ → List ℕ
binary_text bs = codes "x" ++ flat_map hex_byte bs

abbrev pub bytes_text : LogicalType → List ℕ → List ℕ
bytes_text (utf8 n) bs = utf8_text bs
bytes_text _ bs = binary_text bs

abbrev mutual
  -- a cell of a column of this type
  pub value_text : LogicalType → Cell → List ℕ
  value_text t (truth b) = truth_text b
  value_text t (number z) = signed_decimal z
  value_text t (bytes bs) = bytes_text (storage_type t) bs
  value_text t (list cs) = codes "[" ++ (comma_joined (element_texts (element_type (storage_type t)) cs) ++ codes "]")

  pub element_texts : LogicalType → Cells → List (List ℕ)
  element_texts t no_cells = []
  element_texts t (null_then more) = codes "null" ∷ element_texts t more
  element_texts t (cell_then c more) = value_text t c ∷ element_texts t more

abbrev pub cell_text : LogicalType → Option Cell → List ℕ
cell_text t None = codes "null"
cell_text t (Some c) = value_text t c

-- ---- columns

-- the type's text, and then the text of each row, each on a line of its own
abbrev pub text : Column → List ℕ
text c = line (type_text c.dtype) ++ flat_map (λ cell. line (cell_text c.dtype cell)) c.rows

-- numbers of 64 bits, nullable or not
abbrev pub is_i64 : LogicalType → Bool
is_i64 (primitive I64 n) = true
is_i64 _ = false

-- whether columns of the type are printed: numbers of 64 bits, and extensions over them
abbrev pub is_printed : LogicalType → Bool
is_printed (extension name unit time_zone storage) = is_i64 storage
is_printed t = is_i64 t
