-- The two columns that `gen` makes, and the summary of their checked sums, by the number of rows alone.
use Rattle.std.specs.Prelude.{◌≡◌, ◌<◌, ℕ, zero, suc, ◌+◌, ◌*◌, ◌%◌, ◌==◌, not, ℤ, pos, ◌+ℤ◌, Bool, if◌then◌else◌, List, [], ◌∷◌, ◌++◌, Option, Some, None, option_map, unwrap_or, is_some, get_or, codes, decimal}
use Rattle.std.specs.Fmt.{signed_decimal}
use Rattle.bitlane.specs.Bits.{bit, tabulate}
use Rattle.colbase.specs.Arrays.{Array, primitive}
use Rattle.coltypes.specs.declared.validity.Validity.TheVariants as validity
use Rattle.coltypes.specs.declared.values.PrimitiveValues.TheVariants.{I64}
use Rattle.rowexec.specs.Rows.{full_cells}
use Rattle.rowsample.specs.Functions.{exact_sum}
use Rattle.rowjson.specs.Text.{line}
use Rattle.rowrun.specs.declared.generator.column.Pattern.{Pattern}

-- ---- the columns

-- the left column: 37 times the row, modulo 1000; null where the row modulo 5 is 3
abbrev pub left : Pattern
left = record { step = 37; modulus = 1000; period = 5; null_at = 3; under_null = pos 9223372036854775807 }

-- the right column: the row modulo 97; null where the row modulo 7 is 2
abbrev pub right : Pattern
right = record { step = 1; modulus = 97; period = 7; null_at = 2; under_null = pos 1 }

abbrev pub is_null_in : Pattern → ℕ → Bool
is_null_in p i = i % p.period == p.null_at

abbrev pub is_valid_in : Pattern → ℕ → Bool
is_valid_in p i = not (is_null_in p i)

-- what is stored in row i, null or not
abbrev pub stored_in : Pattern → ℕ → ℤ
stored_in p i = if is_null_in p i then p.under_null else pos ((p.step * i) % p.modulus)

-- numbers of 64 bits with a validity array
abbrev pub generated_column : Pattern → ℕ → Array
generated_column p n = primitive (I64 (tabulate (stored_in p) n)) (validity.Array (tabulate (is_valid_in p) n))

-- the columns of n rows
unfoldable pub generated : ℕ → List Array
generated n = generated_column left n ∷ generated_column right n ∷ []

-- ---- the summary

-- the checked sum of row i, where neither column is null there
abbrev pub sum_at : ℕ → ℕ → Option ℤ
sum_at n i = option_map exact_sum (full_cells (generated n) i)

-- how many of the first n rows are null
abbrev pub nulls_of : (ℕ → Option ℤ) → ℕ → ℕ
nulls_of rows zero = 0
nulls_of rows (suc n) = nulls_of rows n + (if is_some (rows n) then 0 else 1)

-- the sum of those of the first n rows that aren't null
abbrev pub total_of : (ℕ → Option ℤ) → ℕ → ℤ
total_of rows zero = pos 0
total_of rows (suc n) = total_of rows n +ℤ unwrap_or (rows n) (pos 0)

-- a name and its number on a line
abbrev pub summary_line : List ℕ → List ℕ → List ℕ
summary_line name number = line (name ++ number)

-- the lines of the numbers of rows and of null rows, and of the sum of the others
abbrev pub summary_text : ℕ → ℕ → ℤ → List ℕ
summary_text n nulls sum =
    summary_line (codes "rows ") (decimal n) ++ (summary_line (codes "nulls ") (decimal nulls) ++ summary_line (codes "sum ") (signed_decimal sum))

-- the summary of the checked sums of n generated rows
unfoldable pub summary : ℕ → List ℕ
summary n = summary_text n (nulls_of (sum_at n) n) (total_of (sum_at n) n)

-- ---- numbers with marks, as an engine's column is decoded

-- the number of row i, where it is marked
abbrev pub marked_at : List ℤ → List Bool → ℕ → Option ℤ
marked_at numbers marks i = if bit marks i then Some (get_or numbers i (pos 0)) else None

-- the most rows that are generated
abbrev pub most_rows : ℕ
most_rows = 1000000

-- from 0 to 4095, so that the sum of the rows stays in range
pub record IsSmall (z : ℤ) : Type 0 where
  pub size : ℕ
  pub is : z ≡ pos size
  pub small : size < 4096
