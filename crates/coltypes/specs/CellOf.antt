-- The cell that a program's value is.
use Rattle.coltypes.specs.declared.scalar.ScalarValue.{ScalarValue, fold-ScalarValue}
use Rattle.coltypes.specs.declared.scalar.ScalarValue.TheOpen.{ScalarValue-F}
use Rattle.coltypes.specs.Cell.{Cell, truth, number, bytes, list_of}

-- one level, with the cells of the values inside in their places
abbrev pub cell_step : ScalarValue-F Cell → Cell
cell_step (ScalarValue-F.Bool b) = truth b
cell_step (ScalarValue-F.Int n) = number n
cell_step (ScalarValue-F.Bytes xs) = bytes xs
cell_step (ScalarValue-F.List xs) = list_of xs

abbrev pub cell_of : ScalarValue → Cell
cell_of = fold-ScalarValue Cell cell_step
