-- An array whose rows are null too where a truth value is false.
use Rattle.std.specs.Prelude.{◌≡◌, ℕ, ◌<◌, Bool, List, Option, None, if◌then◌else◌}
use Rattle.bitlane.specs.Bits.{bit}
use Rattle.coltypes.specs.declared.dtype.Nullability.TheVariants.{Nullable}
use Rattle.coltypes.specs.Cell.{Cell}
use Rattle.coltypes.specs.LogicalType.{LogicalType, with_nullability}
use Rattle.colbase.specs.Arrays.{Array, dtype, len, row, stored}

-- row i, where the truth value is true
abbrev pub shown_row : List Bool → (ℕ → Option Cell) → ℕ → Option Cell
shown_row bits f i = if bit bits i then f i else None

-- the new array has the old rows where the truth values are true, the whole payload, and the type made nullable
pub record Hides (old : Array) (bits : List Bool) (new : Array) : Type 0 where
  pub counted : len new ≡ len old
  pub typed : dtype new ≡ with_nullability (dtype old) Nullable
  pub shown : (i : ℕ) → i < len old → row new i ≡ shown_row bits (row old) i
  pub kept : (i : ℕ) → i < len old → stored new i ≡ stored old i

-- the new array has the cells of the old one under this type
pub record Retypes (old : Array) (t : LogicalType) (new : Array) : Type 0 where
  pub counted : len new ≡ len old
  pub typed : dtype new ≡ t
  pub shown : (i : ℕ) → i < len old → row new i ≡ row old i
  pub kept : (i : ℕ) → i < len old → stored new i ≡ stored old i
