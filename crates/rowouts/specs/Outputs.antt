-- The columns that outputs finish or build: no row is null, and each states an answer.
use Rattle.std.specs.Prelude.{◌≡◌, List, Option, Some, map}
use Rattle.bitlane.specs.Maps.{MapsTo}
use Rattle.coltypes.specs.Cell.{Cell}
use Rattle.colbase.specs.Column.{Column}
use Rattle.coltypes.specs.LogicalType.{LogicalType}

-- a column of these cells, with no null
abbrev pub full_column : LogicalType → List Cell → Column
full_column t xs = record { dtype = t; rows = map (λ x. Some x) xs }

-- the row is the cell of an answer of the callback to an item that may stand there
pub record StatesAnswer {X T : Type 0} (may_be : X → Type 0) (post : X → T → Type 0) (states : T → Cell) (row : Option Cell) : Type 0 where
  pub value : T
  pub maps : MapsTo may_be post value
  pub is : row ≡ Some (states value)
