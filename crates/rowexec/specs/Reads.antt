-- Why the arguments of a batch are not read. Which of several arguments is named depends on the rows that run.
use Rattle.std.specs.Prelude.{◌≡◌, ◌⊎◌, ℕ, ◌<◌, suc, List, [], ◌∷◌, Some}
use Rattle.colbase.specs.Arrays.{Array}
use Rattle.coltypes.specs.Cell.{Cell}
use Rattle.coltypes.specs.declared.fault.Fault.{Fault}
use Rattle.coltypes.specs.declared.fault.Fault.TheVariants.{Decode, Memory}
use Rattle.rowelems.specs.Reading.{Unread}
use Rattle.rowtypes.specs.Rows.{ReadsFrom}
use Rattle.rowplan.specs.Law.{RowLaw}
use Rattle.rowexec.specs.Rows.{full_cells}

-- the array at place j holds a cell that is not read; the places are counted from k on
abbrev pub UnreadAt : (ℕ → Cell → Type 0) → ℕ → List Array → ℕ → Type 0
UnreadAt reads k [] j = ⊥
UnreadAt reads k (a ∷ arrays) j = ((j ≡ k) × Unread (reads k) a) ⊎ UnreadAt reads (suc k) arrays j

-- the fault names an argument that has a cell that is not read
pub record NamesArgument (reads : ℕ → Cell → Type 0) (k : ℕ) (arrays : List Array) (e : Fault) : Type 0 where
  pub place : ℕ
  pub is : e ≡ Decode place
  pub unread : UnreadAt reads k arrays place

-- want of memory, or an argument that has a cell that is not read: of several not always the lowest, since the rows that run may leave its cell out
abbrev pub ReadFails : (ℕ → Cell → Type 0) → ℕ → List Array → Fault → Type 0
ReadFails reads k arrays e = (e ≡ Memory) ⊎ NamesArgument reads k arrays e

-- each cell of each row below n without a null argument is read at its place
abbrev pub ReadsFull : {E : Type 0} → RowLaw E → List Array → ℕ → Type 0
ReadsFull law columns n = (i : ℕ) (cells : List Cell) → i < n → full_cells columns i ≡ Some cells → ReadsFrom law.arguments.reads 0 cells
