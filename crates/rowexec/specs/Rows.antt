-- What a batch call means, row by row: the strict lifting of the meaning of a row. Whatever is stored under a null has no part in it.
use Rattle.std.specs.Prelude.{◌≡◌, ℕ, suc, ◌==◌, Bool, ◌||◌, true, false, List, [], ◌∷◌, Option, None, Some, ⊤, if◌then◌else◌}
use Rattle.colbase.specs.Arrays.{Array, constant, dtype, len, row}
use Rattle.coltypes.specs.Cell.{Cell}
use Rattle.coltypes.specs.LogicalType.{LogicalType}
use Rattle.colbase.specs.Parts.{own_validity}
use Rattle.coltypes.specs.Valid.{validity_kind}
use Rattle.coltypes.specs.declared.fault.Fault.{Fault}
use Rattle.coltypes.specs.declared.fault.Fault.TheVariants.{InputLength}
use Rattle.coltypes.specs.declared.validity.ValidityKind.{ValidityKind}
use Rattle.coltypes.specs.declared.validity.ValidityKind.TheVariants.{AllNull, NoNulls, MayHoldNulls}
use Rattle.rowplan.specs.Law.{RowLaw}
use Rattle.rowplan.specs.Outcomes.{done}

abbrev pub types_of : List Array → List LogicalType
types_of [] = []
types_of (a ∷ arrays) = dtype a ∷ types_of arrays

abbrev pub with_cell : Option Cell → Option (List Cell) → Option (List Cell)
with_cell (Some c) (Some cells) = Some (c ∷ cells)
with_cell _ _ = None

-- the cells of the arguments at row i, where none of them is null there: the row is full
abbrev pub full_cells : List Array → ℕ → Option (List Cell)
full_cells [] i = Some []
full_cells (a ∷ arrays) i = with_cell (row a i) (full_cells arrays i)

-- each array has n rows
abbrev pub EachHasRows : ℕ → List Array → Type 0
EachHasRows n [] = ⊤
EachHasRows n (a ∷ arrays) = (len a ≡ n) × EachHasRows n arrays

-- the first array that does not have n rows, from place k on, as the fault that names it
abbrev pub wrong_length : ℕ → ℕ → List Array → Option Fault
wrong_length n k [] = None
wrong_length n k (a ∷ arrays) = if len a == n then wrong_length n (suc k) arrays else Some (InputLength k (len a) n)

abbrev pub is_all_null : ValidityKind → Bool
is_all_null AllNull = true
is_all_null NoNulls = false
is_all_null MayHoldNulls = false

-- some argument is told to be null at each row
abbrev pub some_all_null : List Array → Bool
some_all_null [] = false
some_all_null (a ∷ arrays) = is_all_null (validity_kind (own_validity a)) || some_all_null arrays

-- a cell whose outcome is done, with evidence that is accepted
pub record Accepted {E : Type 0} (law : RowLaw E) (cells : List Cell) (row : Option Cell) : Type 0 where
  pub cell : Cell
  pub evidence : E
  pub is : row ≡ Some cell
  pub outcome_is : law.meaning cells ≡ done cell evidence
  pub accepted : law.finish evidence ≡ None

-- a row of the answer: null where some argument is null, and else the meaning of the cells there
abbrev pub StrictRow : {E : Type 0} → RowLaw E → Option (List Cell) → Option Cell → Type 0
StrictRow law None r = r ≡ None
StrictRow law (Some cells) r = Accepted law cells r

-- one value stands for all rows of the array
abbrev pub IsConstant : Array → Type 0
IsConstant (constant s n) = ⊤
IsConstant _ = ⊥
