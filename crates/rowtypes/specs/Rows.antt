-- Rows of several arguments. Each word counts the places of the arguments up from the one that is given, so that the
-- rest of a list is a list of arguments too.
use Rattle.std.specs.Prelude.{◌≡◌, ℕ, suc, Bool, true, ◌&&◌, List, [], ◌∷◌, Option, None, Some, Result, Ok, Err, ⊤, ◌⊎◌, cond}
use Rattle.coltypes.specs.Cell.{Cell}
use Rattle.coltypes.specs.LogicalType.{LogicalType}
use Rattle.coltypes.specs.LogicalTypeOf.{logical_type}
use Rattle.colbase.specs.Arrays.{Array, len, dtype}
use Rattle.coltypes.specs.declared.dtype.DType.{DType}
use Rattle.coltypes.specs.declared.fault.Fault.{Fault}
use Rattle.coltypes.specs.declared.fault.Fault.TheVariants.{Dtype, Decode, Memory}
use Rattle.rowelems.specs.Shown.{batch_value}
use Rattle.rowelems.specs.Argument.{ReadsAll, IsWithin, is_length, length_unless}
use Rattle.rowelems.specs.Reading.{Unread}

abbrev pub logical_types : List DType → List LogicalType
logical_types [] = []
logical_types (t ∷ types) = logical_type t ∷ logical_types types

-- the place of the first type that is not accepted
abbrev pub first_refused : (ℕ → LogicalType → Bool) → ℕ → List LogicalType → Option ℕ
first_refused accepts k [] = None
first_refused accepts k (t ∷ types) = cond (accepts k t) (first_refused accepts (suc k) types) (Some k)

abbrev pub checked_types : Option ℕ → Result ⊤ Fault
checked_types None = Ok tt
checked_types (Some k) = Err (Dtype k)

-- the type of each array is accepted at its place
abbrev pub AcceptsFrom : (ℕ → LogicalType → Bool) → ℕ → List Array → Type 0
AcceptsFrom accepts k [] = ⊤
AcceptsFrom accepts k (a ∷ arrays) = (accepts k (dtype a) ≡ true) × AcceptsFrom accepts (suc k) arrays

-- the cells that the arguments show at row i
abbrev pub shown_from : (ℕ → Array → ℕ → Cell) → ℕ → List Array → ℕ → List Cell
shown_from shown k [] i = []
shown_from shown k (a ∷ arrays) i = shown k a i ∷ shown_from shown (suc k) arrays i

-- each cell of a row is read at its place
abbrev pub ReadsFrom : (ℕ → Cell → Type 0) → ℕ → List Cell → Type 0
ReadsFrom reads k [] = ⊤
ReadsFrom reads k (c ∷ cells) = reads k c × ReadsFrom reads (suc k) cells

-- each cell that a reader of the arrays must be able to read is read at its place
abbrev pub ReadsAllFrom : (ℕ → Cell → Type 0) → ℕ → List Array → Type 0
ReadsAllFrom reads k [] = ⊤
ReadsAllFrom reads k (a ∷ arrays) = ReadsAll (reads k) a × ReadsAllFrom reads (suc k) arrays

-- the array at place j holds a cell that is not read, and each array before it is read
abbrev pub FirstUnread : (ℕ → Cell → Type 0) → ℕ → List Array → ℕ → Type 0
FirstUnread reads k [] j = ⊥
FirstUnread reads k (a ∷ arrays) j = ((j ≡ k) × Unread (reads k) a) ⊎ (ReadsAll (reads k) a × FirstUnread reads (suc k) arrays j)

-- the fault names the lowest argument that has a cell that is not read
pub record NamesUnread (reads : ℕ → Cell → Type 0) (k : ℕ) (arrays : List Array) (e : Fault) : Type 0 where
  pub place : ℕ
  pub is : e ≡ Decode place
  pub first : FirstUnread reads k arrays place

-- want of memory, or a cell that is not read
abbrev pub DecodeFails : (ℕ → Cell → Type 0) → ℕ → List Array → Fault → Type 0
DecodeFails reads k arrays e = (e ≡ Memory) ⊎ NamesUnread reads k arrays e

-- the values of the arguments that are one value
abbrev pub batch_values : List Array → List (Option Cell)
batch_values [] = []
batch_values (a ∷ arrays) = batch_value a ∷ batch_values arrays

-- the lengths of the arguments that are decoded as columns
abbrev pub decoded_lengths : List Array → List (Option ℕ)
decoded_lengths [] = []
decoded_lengths (a ∷ arrays) = length_unless (batch_value a) (len a) ∷ decoded_lengths arrays

-- the index is below the length of each decoded column
abbrev pub HasRow : List (Option ℕ) → ℕ → Type 0
HasRow [] i = ⊤
HasRow (n ∷ lengths) i = IsWithin i n × HasRow lengths i

-- each decoded column has this many rows
abbrev pub each_length : ℕ → List (Option ℕ) → Bool
each_length rows [] = true
each_length rows (n ∷ lengths) = is_length rows n && each_length rows lengths

-- each array is null tolerant at its place
abbrev pub all_tolerant : (ℕ → Array → Bool) → ℕ → List Array → Bool
all_tolerant tolerant k [] = true
all_tolerant tolerant k (a ∷ arrays) = tolerant k a && all_tolerant tolerant (suc k) arrays

abbrev pub AgreesAt : Option Cell → Cell → Type 0
AgreesAt None c = ⊤
AgreesAt (Some known) c = known ≡ c

-- each known cell is the row's cell at its place
abbrev pub AgreesWith : List (Option Cell) → List Cell → Type 0
AgreesWith [] [] = ⊤
AgreesWith [] (c ∷ cells) = ⊥
AgreesWith (k ∷ known) [] = ⊥
AgreesWith (k ∷ known) (c ∷ cells) = AgreesAt k c × AgreesWith known cells

-- each known cell is read at its place
abbrev pub ReadsKnown : (ℕ → Cell → Type 0) → ℕ → List (Option Cell) → Type 0
ReadsKnown reads k [] = ⊤
ReadsKnown reads k (None ∷ known) = ReadsKnown reads (suc k) known
ReadsKnown reads k (Some c ∷ known) = reads k c × ReadsKnown reads (suc k) known
