-- Numbers that stand for the rows of an array. They say nothing of a row that is null, so that values can be lent as they are stored.
use Rattle.std.specs.Prelude.{◌≡◌, ℕ, ℤ, ◌<◌, List, length, Some}
use Rattle.coltypes.specs.declared.values.PrimitiveValues.TheVariants as values
use Rattle.colbase.specs.Arrays.{Array, extension, len, row}
use Rattle.coltypes.specs.Cell.{Cell, number}
use Rattle.coltypes.specs.Values.{number_at}

-- there is a number for each row, and where the row isn't null it is the row's cell
pub record Shows (a : Array) (numbers : List ℤ) : Type 0 where
  pub counted : length numbers ≡ len a
  pub each : (i : ℕ) (c : Cell) → i < len a → row a i ≡ Some c → number (number_at (values.I64 numbers) i) ≡ c

-- the storage of an extension, and another array itself
abbrev pub unnamed : Array → Array
unnamed (extension e storage) = storage
unnamed a = a
