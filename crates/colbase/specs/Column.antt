-- A column: a type and its rows, each of which is a cell or null.
use Rattle.std.specs.Prelude.{List, Option}
use Rattle.coltypes.specs.Cell.{Cell}
use Rattle.coltypes.specs.LogicalType.{LogicalType}

pub record Column : Type 0 where
  pub dtype : LogicalType
  pub rows : List (Option Cell)
