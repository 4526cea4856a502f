-- Lists of numbers of which only some places are read as scales: the others may hold any number.
use Rattle.std.specs.Prelude.{◌≡◌, ℕ, ◌<◌, Bool, true, ◌||◌, List, length, is_some, if◌then◌else◌, slice_index_or}
use Rattle.coltypes.specs.declared.fault.Fault.{Fault}
use Rattle.coltypes.specs.declared.fault.Fault.TheVariants.{Decode}
use Rattle.colbase.specs.Arrays.{Array, row}
use Rattle.rowelems.specs.Shown.{batch_value}

-- whether what is stored is shown at a row: at each row of a batch constant that is not null, and else at each that is not null
abbrev pub is_read : Array → ℕ → Bool
is_read a i = is_some (batch_value a) || is_some (row a i)

-- the number where it is read, and zero where it isn't
abbrev pub number_or_zero : Bool → ℕ → ℕ
number_or_zero read n = if read then n else 0

-- a number that is read and is above the highest scale
pub record HasAbove (read : ℕ → Bool) (numbers : List ℕ) : Type 0 where
  pub place : ℕ
  pub within : place < length numbers
  pub told : read place ≡ true
  pub above : 18 < slice_index_or numbers place 0

-- a number that is read and is above the highest scale, as the first argument's
abbrev pub ScaleCause : (ℕ → Bool) → List ℕ → Fault → Type 0
ScaleCause read numbers e = (e ≡ Decode 0) × HasAbove read numbers
