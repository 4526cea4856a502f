-- What an element shows of an array at each row. One scheme for all elements, over the element's own cell, and the two
-- laws that each impl of the trait needs.
use Rattle.std.proofs.Common.{◌∙◌}
use Rattle.std.specs.Prelude.{◌≡◌, ℕ, Option, Some, None, nat_lt, if◌then◌else◌, refl}
use Rattle.coltypes.specs.Cell.{Cell}
use Rattle.colbase.specs.Arrays.{Array, len, row, stored, constant_cell}

-- the value of a batch constant that is not null, of a column that is not empty
abbrev pub batch_value : Array → Option Cell
batch_value a = if nat_lt 0 (len a) then constant_cell a else None

abbrev pub cell_or : Option Cell → Cell → Cell
cell_or (Some x) other = x
cell_or None other = other

-- the batch value where there is one; else the row's cell where the row is not null; else the element's own cell
abbrev pub shown_by : (Array → ℕ → Cell) → Array → ℕ → Cell
shown_by own a i = cell_or (batch_value a) (cell_or (row a i) (own a i))

-- the payload at a row, or this cell where the payload has none
abbrev pub stored_or : Cell → Array → ℕ → Cell
stored_or other a i = cell_or (stored a i) other

same_or : (o : Option Cell) (x other : Cell) → o ≡ Some x → cell_or o other ≡ x
same_or (Some y) x other e = cc
same_or None x other e = absurd (cc)

pub shown_by_constant : (own : Array → ℕ → Cell) (a : Array) (i : ℕ) (x : Cell) → batch_value a ≡ Some x → shown_by own a i ≡ x
shown_by_constant own a i x e = same_or (batch_value a) x _ e

other_or : (o : Option Cell) (other : Cell) → o ≡ None → cell_or o other ≡ other
other_or (Some y) other e = absurd (cc)
other_or None other e = refl

pub shown_by_row : (own : Array → ℕ → Cell) (a : Array) (i : ℕ) (x : Cell) → batch_value a ≡ None → row a i ≡ Some x → shown_by own a i ≡ x
shown_by_row own a i x n e = other_or (batch_value a) _ n ∙ same_or (row a i) x _ e
