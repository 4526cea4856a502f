-- One argument, which is kept as one value or as a decoded column: what it shows, how long it is, and why it is not
-- decoded. Tuples of arguments say the same place by place.
use Rattle.std.specs.Prelude.{◌≡◌, ℕ, ◌<◌, Bool, true, Option, None, Some, ⊤, ◌⊎◌, nat_eq, min, ◌+◌, ◌-◌, ◌^◌}
use Rattle.coltypes.specs.Cell.{Cell}
use Rattle.colbase.specs.Arrays.{Array, MustRead}
use Rattle.coltypes.specs.declared.fault.Fault.{Fault}
use Rattle.coltypes.specs.declared.fault.Fault.TheVariants.{Dtype, Decode, Memory}
use Rattle.rowelems.specs.Reading.{Unread}
use Rattle.rowelems.specs.declared.arg_column.ArgColumn.{ArgColumn}
use Rattle.rowelems.specs.declared.arg_column.ArgColumn.TheVariants.{Value, Column}

-- the cell that an argument shows at row i
abbrev pub arg_shows : {T C K E : Type 0} → (C → ℕ → Cell) → (K → Cell) → ArgColumn T C K E → ℕ → Cell
arg_shows shows cell (Value k) i = cell k
arg_shows shows cell (Column c) i = shows c i

-- the cell of an argument that is one value
abbrev pub arg_value : {T C K E : Type 0} → (K → Cell) → ArgColumn T C K E → Option Cell
arg_value cell (Value k) = Some (cell k)
arg_value cell (Column c) = None

-- the length of an argument that is a decoded column
abbrev pub arg_length : {T C K E : Type 0} → (C → ℕ) → ArgColumn T C K E → Option ℕ
arg_length count (Value k) = None
arg_length count (Column c) = Some (count c)

-- the cell of a value that may be known
abbrev pub known_cell : {X : Type 0} → (X → Cell) → Option X → Option Cell
known_cell cell None = None
known_cell cell (Some x) = Some (cell x)

-- each cell that a reader of the array must be able to read is read
abbrev pub ReadsAll : (Cell → Type 0) → Array → Type 0
ReadsAll reads a = (x : Cell) → MustRead a x → reads x

-- why the argument at place k is not decoded
abbrev pub ArgumentFails : (Cell → Type 0) → ℕ → Array → Fault → Type 0
ArgumentFails reads k a e = (e ≡ Memory) ⊎ ((e ≡ Decode k) × Unread reads a)

-- the fault of the first place as that of place k
abbrev pub placed : ℕ → Fault → Fault
placed k (Decode j) = Decode (min (j + k) (2 ^ 64 - 1))
placed k (Dtype j) = Dtype (min (j + k) (2 ^ 64 - 1))
placed k e = e

-- a length, unless there is one value
abbrev pub length_unless : Option Cell → ℕ → Option ℕ
length_unless None n = Some n
length_unless (Some c) n = None

-- below the length, where there is one
abbrev pub IsWithin : ℕ → Option ℕ → Type 0
IsWithin i None = ⊤
IsWithin i (Some n) = i < n

-- this many rows, where there is a length
abbrev pub is_length : ℕ → Option ℕ → Bool
is_length rows None = true
is_length rows (Some n) = nat_eq n rows
