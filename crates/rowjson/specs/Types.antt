-- The types that JSON values state, by name or as an extension. The recursion goes over the JSON value, so that it is one by its form.
use Rattle.std.specs.Prelude.{ℕ, Bool, ◌-◌, ◌==◌, if◌then◌else◌, List, length, slice_index, take, Option, Some, None, option_map, codes}
use Rattle.std.specs.Ordering.{nat_cmp, match_ordering}
use Rattle.std.specs.Cmp.Lexicographic.{slice_cmp}
use Rattle.std.specs.Str.{bytes_eq}
use Rattle.serde_json.specs.Data.{Data, string, object, Members, no_members, member}
use Rattle.serde_json.specs.Find.{get, as_str}
use Rattle.coltypes.specs.declared.dtype.PType.{PType}
use Rattle.coltypes.specs.declared.dtype.PType.TheVariants.{I8, I16, I32, I64, U8, U16, U32, U64}
use Rattle.coltypes.specs.declared.dtype.Nullability.{Nullability}
use Rattle.coltypes.specs.declared.dtype.Nullability.TheVariants.{Nullable, NonNullable}
use Rattle.coltypes.specs.declared.dtype.TimeUnit.{TimeUnit}
use Rattle.coltypes.specs.declared.dtype.TimeUnit.TheVariants.{Nanoseconds, Microseconds, Milliseconds, Seconds, Days}
use Rattle.coltypes.specs.LogicalType.{LogicalType, null, bool, primitive, extension}
use Rattle.rowjson.specs.Objects.{◌>>=◌, has_keys, text_in, value_or_null}

-- ---- types by name

-- whether `?` stands at the end of a type's name
abbrev pub ends_in_mark : List ℕ → Bool
ends_in_mark name = slice_index name (length name - 1) == 63

-- a type's name before that mark
unfoldable pub plain_name : List ℕ → List ℕ
plain_name name = if ends_in_mark name then take (length name - 1) name else name

unfoldable pub name_nullability : List ℕ → Nullability
name_nullability name = if ends_in_mark name then Nullable else NonNullable

unfoldable pub integer_named : List ℕ → Option PType
integer_named name =
    if bytes_eq name (codes "i8") then Some I8 else if bytes_eq name (codes "i16") then Some I16
    else if bytes_eq name (codes "i32") then Some I32 else if bytes_eq name (codes "i64") then Some I64
    else if bytes_eq name (codes "u8") then Some U8 else if bytes_eq name (codes "u16") then Some U16
    else if bytes_eq name (codes "u32") then Some U32 else if bytes_eq name (codes "u64") then Some U64 else None

-- a type that is nullable or not, by its name without the mark
unfoldable pub marked_type : List ℕ → Nullability → Option LogicalType
marked_type plain n = if bytes_eq plain (codes "bool") then Some (bool n) else option_map (λ p. primitive p n) (integer_named plain)

-- the type of a name; "null" has no mark
unfoldable pub type_named : List ℕ → Option LogicalType
type_named name = if bytes_eq name (codes "null") then Some null else marked_type (plain_name name) (name_nullability name)

-- ---- extensions

unfoldable pub unit_named : List ℕ → Option TimeUnit
unit_named name =
    if bytes_eq name (codes "ns") then Some Nanoseconds else if bytes_eq name (codes "us") then Some Microseconds
    else if bytes_eq name (codes "ms") then Some Milliseconds else if bytes_eq name (codes "s") then Some Seconds
    else if bytes_eq name (codes "D") then Some Days else None

abbrev pub stated_unit : Data → Option TimeUnit
stated_unit d = as_str d >>= unit_named

-- the unit by the key `unit`: a name, or null for none
unfoldable pub unit_in : Data → Option (Option TimeUnit)
unit_in d = get (codes "unit") d >>= value_or_null stated_unit

-- the zone by the key `zone`: a text, or null for none
unfoldable pub zone_in : Data → Option (Option (List ℕ))
zone_in d = get (codes "zone") d >>= value_or_null as_str

-- the extension over a storage type that an object states, its name by this key
unfoldable pub extension_over : List ℕ → Data → LogicalType → Option LogicalType
extension_over key d storage = do
  name ← text_in key d
  unit ← unit_in d
  zone ← zone_in d
  Some (extension name unit zone storage)

-- ---- types of any form

-- an extension over what the member `storage` states
abbrev pub extension_stated : Data → LogicalType → Option LogicalType
extension_stated d storage = if has_keys 4 d then extension_over (codes "ext") d storage else None

abbrev pub type_by_form : Option (List ℕ) → Data → Option LogicalType → Option LogicalType
type_by_form (Some name) d storage = type_named name
type_by_form None d storage = storage >>= extension_stated d

-- a text is a type's name, and an object an extension
unfoldable pub type_over : Data → Option LogicalType → Option LogicalType
type_over d storage = type_by_form (as_str d) d storage

-- by recursion over the JSON value, so that types may nest as deep as it does
unfoldable mutual
  pub type_of : Data → Option LogicalType
  type_of (string name) = type_over (string name) None
  type_of (object ms) = type_over (object ms) (storage_type_in ms)
  type_of _ = None

  -- the type that the member `storage` states
  pub storage_type_in : Members → Option LogicalType
  storage_type_in no_members = None
  storage_type_in (member key d ms) = match_ordering (slice_cmp nat_cmp (codes "storage") key) (storage_type_in ms) (type_of d) (storage_type_in ms)

-- the type by the key `type`
unfoldable pub type_in : Data → Option LogicalType
type_in d = get (codes "type") d >>= type_of

-- ---- types of a layout

-- an integer type, and whether it is nullable
abbrev pub as_integer_type : LogicalType → Option (PType × Nullability)
as_integer_type (primitive p n) = Some (p, n)
as_integer_type _ = None

-- whether the type of truth values is nullable
abbrev pub as_bool_type : LogicalType → Option Nullability
as_bool_type (bool n) = Some n
as_bool_type _ = None
