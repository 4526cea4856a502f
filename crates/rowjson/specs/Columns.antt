-- The columns that JSON values state, each as the plain data of its layout. None stands for a value that states no column.
use Rattle.std.specs.Prelude.{ℕ, ℤ, pos, Bool, false, ◌+◌, ◌&&◌, nat_le, if◌then◌else◌, List, map, length, Option, Some, None, option_map, is_some, unwrap_or, codes}
use Rattle.std.specs.List.{list_all}
use Rattle.std.specs.Ordering.{nat_cmp, match_ordering}
use Rattle.std.specs.Cmp.Lexicographic.{slice_cmp}
use Rattle.std.specs.Str.{bytes_eq}
use Rattle.serde_json.specs.Data.{Data, object, Items, Members, no_members, member}
use Rattle.serde_json.specs.Find.{get, as_bool, as_number, as_i64, as_u64, as_str, as_array}
use Rattle.colbase.specs.Arrays.{Array, primitive, bool, constant, masked, extension, dtype, len}
use Rattle.coltypes.specs.Checks.{first_of, length_check}
use Rattle.colbase.specs.Faults.{null_check}
use Rattle.coltypes.specs.Fits.{in_range}
use Rattle.coltypes.specs.declared.fault.LayoutFault.{LayoutFault}
use Rattle.coltypes.specs.declared.validity.Validity.{Validity}
use Rattle.coltypes.specs.declared.validity.Validity.TheVariants as validity
use Rattle.coltypes.specs.declared.values.PrimitiveValues.TheVariants as values
use Rattle.coltypes.specs.declared.dtype.PType.{PType}
use Rattle.coltypes.specs.declared.dtype.PType.TheVariants.{I8, I16, I32, I64, U8, U16, U32, U64}
use Rattle.coltypes.specs.declared.dtype.Nullability.{Nullability}
use Rattle.coltypes.specs.declared.dtype.Nullability.TheVariants.{Nullable, NonNullable}
use Rattle.rowjson.specs.DtypeOf.{ext_dtype_of}
use Rattle.rowjson.specs.Objects.{◌>>=◌, has_keys, text_in, number_in, array_in, value_or_null, all_in}
use Rattle.rowjson.specs.Scalars.{scalar_in}
use Rattle.rowjson.specs.Types.{type_in, extension_over, as_integer_type, as_bool_type}

-- ---- validity

abbrev pub is_text : List ℕ → Option (List ℕ) → Bool
is_text word None = false
is_text word (Some text) = bytes_eq text word

-- the validity that `valid` states: the word "none", or an array of truth values
unfoldable pub stated_validity : Data → Option Validity
stated_validity d =
    if is_text (codes "none") (as_str d) then Some validity.AllInvalid
    else option_map validity.Array (as_array d >>= all_in as_bool)

-- `valid` may stand only where the type is nullable
abbrev pub optional_validity : Nullability → Option Data → Option (Option Validity)
optional_validity n None = Some None
optional_validity NonNullable (Some d) = None
optional_validity Nullable (Some d) = option_map Some (stated_validity d)

-- the validity by the key `valid`, where the object has the key
unfoldable pub valid_in : Nullability → Data → Option (Option Validity)
valid_in n d = optional_validity n (get (codes "valid") d)

-- an object with this number of keys besides `valid`
abbrev pub has_keys_and_valid : Option Validity → ℕ → Data → Bool
has_keys_and_valid None n d = has_keys n d
has_keys_and_valid (Some v) n d = has_keys (n + 1) d

-- ---- values

-- the column, unless the layout's check fails: a validity array has as many truth values as there are rows
abbrev pub unless_fault : Option LayoutFault → Array → Option Array
unless_fault None a = Some a
unless_fault (Some f) a = None

abbrev pub laid_out : {X : Type 0} → (List X → Validity → Array) → List X → Validity → Option Array
laid_out layout xs v = unless_fault (length_check v (length xs)) (layout xs v)

-- values none of which is null
abbrev pub required_array : {X : Type 0} → (Data → Option X) → (List X → Validity → Array) → Validity → Items → Option Array
required_array value layout v items = all_in value items >>= (λ xs. laid_out layout xs v)

-- what is stored for the values, with this under a null
abbrev pub stored_values : {X : Type 0} → X → List (Option X) → List X
stored_values under_null cells = map (λ cell. unwrap_or cell under_null) cells

-- the validity of a nullable column with these marks
abbrev pub marked : List Bool → Validity
marked marks = if list_all (λ m. m) marks then validity.AllValid else validity.Array marks

-- values some of which may be null
abbrev pub optional_array : {X : Type 0} → (Data → Option X) → X → (List X → Validity → Array) → Items → Option Array
optional_array value under_null layout items =
    all_in (value_or_null value) items >>= (λ cells. laid_out layout (stored_values under_null cells) (marked (map is_some cells)))

-- a value may be null only where the type is nullable and `valid` isn't given
abbrev pub array_of : {X : Type 0} → (Data → Option X) → X → (List X → Validity → Array) → Nullability → Option Validity → Items → Option Array
array_of value under_null layout n (Some v) items = required_array value layout v items
array_of value under_null layout NonNullable None items = required_array value layout validity.NonNullable items
array_of value under_null layout Nullable None items = optional_array value under_null layout items

-- ---- layouts

abbrev pub signed_within : PType → ℤ → Option ℤ
signed_within p z = if in_range p z then Some z else None

abbrev pub unsigned_within : PType → ℕ → Option ℕ
unsigned_within p n = if in_range p (pos n) then Some n else None

-- a whole number of this signed type
unfoldable pub signed_value : PType → Data → Option ℤ
signed_value p d = as_number d >>= as_i64 >>= signed_within p

-- a whole number of this unsigned type
unfoldable pub unsigned_value : PType → Data → Option ℕ
unsigned_value p d = as_number d >>= as_u64 >>= unsigned_within p

abbrev pub integer_array : PType → Nullability → Option Validity → Items → Option Array
integer_array I8 n v items = array_of (signed_value I8) (pos 0) (λ xs. primitive (values.I8 xs)) n v items
integer_array I16 n v items = array_of (signed_value I16) (pos 0) (λ xs. primitive (values.I16 xs)) n v items
integer_array I32 n v items = array_of (signed_value I32) (pos 0) (λ xs. primitive (values.I32 xs)) n v items
integer_array I64 n v items = array_of (signed_value I64) (pos 0) (λ xs. primitive (values.I64 xs)) n v items
integer_array U8 n v items = array_of (unsigned_value U8) 0 (λ xs. primitive (values.U8 xs)) n v items
integer_array U16 n v items = array_of (unsigned_value U16) 0 (λ xs. primitive (values.U16 xs)) n v items
integer_array U32 n v items = array_of (unsigned_value U32) 0 (λ xs. primitive (values.U32 xs)) n v items
integer_array U64 n v items = array_of (unsigned_value U64) 0 (λ xs. primitive (values.U64 xs)) n v items

unfoldable pub primitive_in : Data → Option Array
primitive_in d = do
  stated ← type_in d
  type ← as_integer_type stated
  items ← array_in (codes "values") d
  valid ← valid_in type.1 d
  if has_keys_and_valid valid 3 d then integer_array type.0 type.1 valid items else None

unfoldable pub bool_in : Data → Option Array
bool_in d = do
  stated ← type_in d
  nullability ← as_bool_type stated
  items ← array_in (codes "values") d
  valid ← valid_in nullability d
  if has_keys_and_valid valid 3 d then array_of as_bool false bool nullability valid items else None

-- the most rows that a batch or a constant may have
abbrev pub max_rows : ℕ
max_rows = 1048576

unfoldable pub constant_in : Data → Option Array
constant_in d = do
  type ← type_in d
  value ← get (codes "value") d
  scalar ← scalar_in type value
  rows ← number_in (codes "len") d
  if has_keys 4 d && nat_le rows max_rows then Some (constant scalar rows) else None

-- the masked layout over a child, which has no null
abbrev pub masked_by : Array → Validity → Option Array
masked_by child v = unless_fault (first_of (length_check v (len child)) (null_check child)) (masked child v)

-- `valid` may stand whatever the child's type is; without it no row is null
unfoldable pub masked_in : Data → Array → Option Array
masked_in d child = do
  valid ← valid_in Nullable d
  if has_keys_and_valid valid 2 d then masked_by child (unwrap_or valid validity.AllValid) else None

-- the extension layout over a storage, whose type is the extension's
unfoldable pub extension_in : Data → Array → Option Array
extension_in d storage = do
  stated ← extension_over (codes "name") d (dtype storage)
  ext ← ext_dtype_of stated
  if has_keys 5 d then Some (extension ext storage) else None

-- a column of the layout of this name, over what a member states
abbrev pub column_of : List ℕ → Data → (List ℕ → Option Array) → Option Array
column_of layout d inner =
    if bytes_eq layout (codes "primitive") then primitive_in d
    else if bytes_eq layout (codes "bool") then bool_in d
    else if bytes_eq layout (codes "constant") then constant_in d
    else if bytes_eq layout (codes "masked") then inner (codes "child") >>= masked_in d
    else if bytes_eq layout (codes "extension") then inner (codes "storage") >>= extension_in d else None

unfoldable pub column_over : Data → (List ℕ → Option Array) → Option Array
column_over d inner = text_in (codes "layout") d >>= (λ layout. column_of layout d inner)

-- by recursion over the JSON value, so that columns may nest as deep as it does
unfoldable mutual
  pub column_in : Data → Option Array
  column_in (object ms) = column_over (object ms) (λ key. inner_in key ms)
  column_in _ = None

  -- the column that the member of this key states
  pub inner_in : List ℕ → Members → Option Array
  inner_in key no_members = None
  inner_in key (member k d ms) = match_ordering (slice_cmp nat_cmp key k) (inner_in key ms) (column_in d) (inner_in key ms)

abbrev pub columns_in : Items → Option (List Array)
columns_in items = all_in column_in items
