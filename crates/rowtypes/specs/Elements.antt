-- What the elements of a tuple are, place by place: one record, so that a row function names it once for its arguments.
use Rattle.std.specs.Prelude.{ℕ, Bool}
use Rattle.coltypes.specs.Cell.{Cell}
use Rattle.coltypes.specs.LogicalType.{LogicalType}
use Rattle.colbase.specs.Arrays.{Array}

-- by the place of an argument: whether its type is accepted, which cells are read, the cell that an array shows at a row, null or
-- not, and whether an array is decoded with its nulls
pub record Elements : Type 1 where
  pub accepts : ℕ → LogicalType → Bool
  pub reads : ℕ → Cell → Type 0
  pub shown : ℕ → Array → ℕ → Cell
  pub tolerant : ℕ → Array → Bool
