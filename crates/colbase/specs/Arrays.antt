-- An array by its layout, and its rows, payload and type.
use Rattle.std.specs.Prelude.{◌≡◌, ℕ, ◌+◌, ◌-◌, ◌*◌, ◌<◌, ◌≤◌, Bool, true, List, length, Option, Some, None, IsSome, ◌⊎◌, option_map, if◌then◌else◌, nat_lt, slice_index, slice_range}
use Rattle.bitlane.specs.Bits.{bit, tabulate}
use Rattle.coltypes.specs.declared.validity.Validity.{Validity}
use Rattle.coltypes.specs.declared.validity.Validity.TheVariants as v
use Rattle.coltypes.specs.declared.values.PrimitiveValues.{PrimitiveValues}
use Rattle.coltypes.specs.declared.scalar.Scalar.{Scalar}
use Rattle.coltypes.specs.declared.dtype.ExtDType.{ExtDType}
use Rattle.coltypes.specs.declared.dtype.Nullability.{Nullability}
use Rattle.coltypes.specs.declared.dtype.Nullability.TheVariants.{Nullable}
use Rattle.coltypes.specs.declared.binary.BinaryView.{BinaryView}
use Rattle.coltypes.specs.declared.binary.BinaryKind.{BinaryKind}
use Rattle.coltypes.specs.declared.binary.BinaryKind.TheVariants.{Utf8, Binary}
use Rattle.coltypes.specs.Cell.{Cell, truth, number, bytes, list_of}
use Rattle.coltypes.specs.CellOf.{cell_of}
use Rattle.coltypes.specs.LogicalType as types
use Rattle.coltypes.specs.LogicalTypeOf.{logical_type, extension_type}
use Rattle.colbase.specs.Column.{Column}
use Rattle.coltypes.specs.Valid.{valid_at, validity_nullability, Covers}
use Rattle.coltypes.specs.Values.{count, number_at, ptype_of}
use Rattle.coltypes.specs.Views.{view_at, view_bytes, EachIsShort}

pub data Array : Type 0 where
  -- one scalar in each of this many rows
  constant : Scalar → ℕ → Array
  -- an array whose rows are null too where the validity says so
  masked : Array → Validity → Array
  -- an array of the storage type under a named type
  extension : ExtDType → Array → Array
  primitive : PrimitiveValues → Validity → Array
  bool : List Bool → Validity → Array
  -- offsets into bytes
  varbin : List ℕ → List ℕ → BinaryKind → Validity → Array
  -- views into buffers
  varbinview : List BinaryView → List (List ℕ) → BinaryKind → Validity → Array
  -- offsets into elements
  list : Array → List ℕ → Validity → Array
  -- offsets into elements, and sizes
  listview : Array → List ℕ → List ℕ → Validity → Array
  -- elements, the number of them in a row, and the number of rows
  fixed_size_list : Array → ℕ → ℕ → Validity → Array

-- the number of rows
abbrev pub len : Array → ℕ
len (constant s n) = n
len (masked c v) = len c
len (extension e c) = len c
len (primitive values v) = count values
len (bool bits v) = length bits
len (varbin offsets bs k v) = length offsets - 1
len (varbinview views buffers k v) = length views
len (list c offsets v) = length offsets - 1
len (listview c offsets sizes v) = length offsets
len (fixed_size_list c width n v) = n

-- nullable, unless neither the child nor the mask is
abbrev pub masked_type : types.LogicalType → Validity → types.LogicalType
masked_type t v.NonNullable = t
masked_type t _ = types.with_nullability t Nullable

abbrev pub binary_type : BinaryKind → Nullability → types.LogicalType
binary_type Utf8 n = types.utf8 n
binary_type Binary n = types.binary n

abbrev pub dtype : Array → types.LogicalType
dtype (constant s n) = logical_type s.dtype
dtype (masked c v) = masked_type (dtype c) v
dtype (extension e c) = extension_type e
dtype (primitive values v) = types.primitive (ptype_of values) (validity_nullability v)
dtype (bool bits v) = types.bool (validity_nullability v)
dtype (varbin offsets bs k v) = binary_type k (validity_nullability v)
dtype (varbinview views buffers k v) = binary_type k (validity_nullability v)
dtype (list c offsets v) = types.list (dtype c) (validity_nullability v)
dtype (listview c offsets sizes v) = types.list (dtype c) (validity_nullability v)
dtype (fixed_size_list c width n v) = types.fixed_size_list (dtype c) width (validity_nullability v)

-- the cell, where the row is not null
abbrev pub if_valid : Validity → ℕ → Option Cell → Option Cell
if_valid v i c = if valid_at v i then c else None

-- f at a, a + 1 and so on, below b
abbrev pub between : {X : Type 0} → (ℕ → X) → ℕ → ℕ → List X
between f a b = tabulate (λ i. f (a + i)) (b - a)

-- the list of the rows from a to below b
abbrev pub list_between : (ℕ → Option Cell) → ℕ → ℕ → Option Cell
list_between f a b = Some (list_of (between f a b))

-- the list of this many rows from a on, where there are as many
abbrev pub list_within : (ℕ → Option Cell) → ℕ → ℕ → ℕ → Option Cell
list_within f limit a size = if nat_lt limit (a + size) then None else list_between f a (a + size)

-- row i
abbrev pub row : Array → ℕ → Option Cell
row (constant s n) i = option_map cell_of s.value
row (masked c v) i = if_valid v i (row c i)
row (extension e c) i = row c i
row (primitive values v) i = if_valid v i (Some (number (number_at values i)))
row (bool bits v) i = if_valid v i (Some (truth (bit bits i)))
row (varbin offsets bs k v) i = if_valid v i (Some (bytes (slice_range bs (slice_index offsets i) (slice_index offsets (i + 1)))))
row (varbinview views buffers k v) i = if_valid v i (option_map bytes (view_bytes (view_at views i) buffers))
row (list c offsets v) i = if_valid v i (list_between (λ j. row c j) (slice_index offsets i) (slice_index offsets (i + 1)))
row (listview c offsets sizes v) i = if_valid v i (list_within (λ j. row c j) (len c) (slice_index offsets i) (slice_index sizes i))
row (fixed_size_list c width n v) i = if_valid v i (list_between (λ j. row c j) (i * width) (i * width + width))

-- entry i of the payload, which leaves validity aside
abbrev pub stored : Array → ℕ → Option Cell
stored (constant s n) i = option_map cell_of s.value
stored (masked c v) i = stored c i
stored (extension e c) i = stored c i
stored (primitive values v) i = Some (number (number_at values i))
stored (bool bits v) i = Some (truth (bit bits i))
stored (varbin offsets bs k v) i = Some (bytes (slice_range bs (slice_index offsets i) (slice_index offsets (i + 1))))
stored (varbinview views buffers k v) i = option_map bytes (view_bytes (view_at views i) buffers)
stored (list c offsets v) i = list_between (λ j. row c j) (slice_index offsets i) (slice_index offsets (i + 1))
stored (listview c offsets sizes v) i = list_within (λ j. row c j) (len c) (slice_index offsets i) (slice_index sizes i)
stored (fixed_size_list c width n v) i = list_between (λ j. row c j) (i * width) (i * width + width)

abbrev pub rows : Array → List (Option Cell)
rows a = tabulate (row a) (len a)

abbrev pub payload : Array → List (Option Cell)
payload a = tabulate (stored a) (len a)

-- the column that an array is
abbrev pub column : Array → Column
column a = record { dtype = dtype a; rows = rows a }

-- the value of a batch constant: a constant, a mask over one, or an extension over one
abbrev pub constant_cell : Array → Option Cell
constant_cell (constant s n) = option_map cell_of s.value
constant_cell (masked (constant s n) v) = option_map cell_of s.value
constant_cell (extension e (constant s n)) = option_map cell_of s.value
constant_cell _ = None

-- what a reader of the array must be able to read: each cell of a row, and the value of a batch constant that has a row
abbrev pub MustRead : Array → Cell → Type 0
MustRead a x = ((i : ℕ) × (i < len a) × (row a i ≡ Some x)) ⊎ ((0 < len a) × (constant_cell a ≡ Some x))

-- each offset is at most each later one, and at most the number of elements
pub record OffsetsFit (offsets : List ℕ) (limit : ℕ) : Type 0 where
  pub some : 1 ≤ length offsets
  pub rising : (i j : ℕ) → i ≤ j → j < length offsets → slice_index offsets i ≤ slice_index offsets j
  pub last : (i : ℕ) → i < length offsets → slice_index offsets i ≤ limit

-- something is stored for each row that is not null
abbrev pub StoredWhereValid : Validity → ℕ → (ℕ → Option Cell) → Type 0
StoredWhereValid v n f = (i : ℕ) → i < n → valid_at v i ≡ true → IsSome (f i)

-- each check of the layout passes, at every level
abbrev pub Sound : Array → Type 0
Sound (constant s n) = Unit {0}
Sound (masked c v) = Sound c × Covers v (len c) × ((i : ℕ) → i < len c → IsSome (row c i))
Sound (extension e c) = Sound c × (logical_type e.storage ≡ dtype c)
Sound (primitive values v) = Covers v (count values)
Sound (bool bits v) = Covers v (length bits)
Sound (varbin offsets bs k v) = OffsetsFit offsets (length bs) × Covers v (length offsets - 1)
Sound (varbinview views buffers k v) =
    Covers v (length views) × EachIsShort views × StoredWhereValid v (length views) (λ i. option_map bytes (view_bytes (view_at views i) buffers))
Sound (list c offsets v) = Sound c × OffsetsFit offsets (len c) × Covers v (length offsets - 1)
Sound (listview c offsets sizes v) =
    Sound c × (length sizes ≡ length offsets) × Covers v (length offsets) × StoredWhereValid v (length offsets) (λ i. list_within (λ j. row c j) (len c) (slice_index offsets i) (slice_index sizes i))
Sound (fixed_size_list c width n v) = Sound c × (len c ≡ n * width) × Covers v n

-- how deep the layouts nest
abbrev pub depth : Array → ℕ
depth (constant s n) = 1
depth (masked c v) = depth c + 1
depth (extension e c) = depth c + 1
depth (primitive values v) = 1
depth (bool bits v) = 1
depth (varbin offsets bs k v) = 1
depth (varbinview views buffers k v) = 1
depth (list c offsets v) = depth c + 1
depth (listview c offsets sizes v) = depth c + 1
depth (fixed_size_list c width n v) = depth c + 1
