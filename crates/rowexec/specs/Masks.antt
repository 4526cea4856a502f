-- Rows made null, of a column that holds a value at each.
use Rattle.std.specs.Prelude.{Bool, Option, None, if◌then◌else◌}
use Rattle.coltypes.specs.Cell.{Cell}

abbrev pub null_unless : Bool → Option Cell → Option Cell
null_unless valid r = if valid then r else None
