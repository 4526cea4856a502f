-- Which types an element accepts, which cells it reads, and why a column can't be decoded.
use Rattle.std.specs.Prelude.{◌≡◌, ◌≤◌, ℕ, Bool, IsTrue, true, false, ◌&&◌, ⊤, ◌⊎◌, List, Option, Some, None, Result, Ok, Err, if◌then◌else◌, pos, bytes_eq, codes}
use Rattle.coltypes.specs.declared.dtype.PType.{PType}
use Rattle.coltypes.specs.declared.dtype.PType.TheVariants as p
use Rattle.coltypes.specs.declared.dtype.TimeUnit.{TimeUnit}
use Rattle.coltypes.specs.declared.dtype.TimeUnit.TheVariants.{Days}
use Rattle.coltypes.specs.declared.fault.Fault.{Fault}
use Rattle.coltypes.specs.declared.fault.Fault.TheVariants.{Memory, Decode, Dtype}
use Rattle.coltypes.specs.Cell.{Cell, truth, number}
use Rattle.coltypes.specs.Equal.{same_ptype}
use Rattle.coltypes.specs.Fits.{in_range}
use Rattle.coltypes.specs.LogicalType as t
use Rattle.colbase.specs.Arrays.{Array, MustRead, constant_cell}

-- a cell of the array that must be read and is not
pub record Unread (reads : Cell → Type 0) (a : Array) : Type 0 where
  pub cell : Cell
  pub must : MustRead a cell
  pub unread : reads cell → ⊥

-- want of memory, or a cell that is not read
abbrev pub DecodeCause : (Cell → Type 0) → Array → Fault → Type 0
DecodeCause reads a e = (e ≡ Memory) ⊎ ((e ≡ Decode 0) × Unread reads a)

-- want of memory, or a batch constant whose value is not read
abbrev pub ConstantCause : (Cell → Type 0) → Array → Fault → Type 0
ConstantCause reads a e = (e ≡ Memory) ⊎ ((e ≡ Decode 0) × ((x : Cell) → constant_cell a ≡ Some x → reads x → ⊥))

-- the answer to a type that is accepted or not
abbrev pub checked_type : Bool → Result ⊤ Fault
checked_type accepted = if accepted then Ok tt else Err (Dtype 0)

abbrev pub IsTruth : Cell → Type 0
IsTruth (truth b) = ⊤
IsTruth _ = ⊥

-- a whole number in the range of the type
abbrev pub IsNumberOf : PType → Cell → Type 0
IsNumberOf p (number z) = IsTrue (in_range p z)
IsNumberOf p _ = ⊥

-- a whole number from 0 to 18
abbrev pub IsScale : Cell → Type 0
IsScale (number (pos n)) = n ≤ 18
IsScale _ = ⊥

-- an integer type of this kind, nullable or not
abbrev pub is_integer : PType → t.LogicalType → Bool
is_integer p (t.primitive q n) = same_ptype p q
is_integer p _ = false

abbrev pub is_bool : t.LogicalType → Bool
is_bool (t.bool n) = true
is_bool _ = false

-- a unit that is there and isn't days
abbrev pub is_time_unit : Option TimeUnit → Bool
is_time_unit None = false
is_time_unit (Some Days) = false
is_time_unit (Some _) = true

-- the name of the timestamp types
abbrev pub timestamp_name : List ℕ
timestamp_name = codes "vortex.timestamp"

-- a timestamp type whose unit isn't days: in any zone, over numbers of 64 bits, nullable or not
abbrev pub is_timestamp : t.LogicalType → Bool
is_timestamp (t.extension name unit time_zone storage) = bytes_eq name timestamp_name && (is_time_unit unit && is_integer p.I64 storage)
is_timestamp _ = false
