-- An array of the rows that a mask selects.
use Rattle.std.specs.Prelude.{◌≡◌, ℕ, ◌<◌, Bool, List}
use Rattle.colbase.specs.Arrays.{Array, constant_cell, dtype, len, MustRead, payload, row, rows, stored}
use Rattle.colbase.specs.Parts.{scalar_of}
use Rattle.coltypes.specs.Cell.{Cell}
use Rattle.coltypes.specs.Keep.{keep, place, trues}

-- the new array has the old cells at the places of the true values, the type, and what makes a batch constant
pub record Selects (old : Array) (bits : List Bool) (new : Array) : Type 0 where
  pub counted : len new ≡ trues bits
  pub typed : dtype new ≡ dtype old
  pub shown : (i : ℕ) → i < trues bits → row new i ≡ row old (place bits i)
  pub kept : (i : ℕ) → i < trues bits → stored new i ≡ stored old (place bits i)
  pub scalar : scalar_of new ≡ scalar_of old
  pub batch : constant_cell new ≡ constant_cell old

-- the new array has the selected rows and the selected payload of the old one, its type, and no cell more that must be read
pub record Filters (old : Array) (bits : List Bool) (new : Array) : Type 0 where
  pub kept_rows : rows new ≡ keep bits (rows old)
  pub kept_payload : payload new ≡ keep bits (payload old)
  pub typed : dtype new ≡ dtype old
  pub must_read : (x : Cell) → MustRead new x → MustRead old x
