-- What the functions that the program knows mean, row by row, over plain cells: which cells they read, the exact number, and what of it is an
-- error.
use Rattle.std.specs.Prelude.{ℕ, ◌^◌, ℤ, pos, ◌+ℤ◌, ◌-ℤ◌, ◌*ℤ◌, if◌then◌else◌, ⊤, Bool, not, ◌||◌, List, [], ◌∷◌, Option, None, Some}
use Rattle.std.specs.Int.{w64, int_rem_euclid, int_wrap, int_wrapping_add, is_positive}
use Rattle.bitlane.specs.declared.failure_evidence.NoFailure.{NoFailure}
use Rattle.coltypes.specs.declared.dtype.PType.TheVariants.{I64}
use Rattle.coltypes.specs.declared.dtype.Nullability.TheVariants.{NonNullable}
use Rattle.coltypes.specs.Cell.{Cell, number}
use Rattle.coltypes.specs.Fits.{in_range}
use Rattle.coltypes.specs.LogicalType.{LogicalType, primitive, with_nullability}
use Rattle.rowelems.specs.Reading.{is_timestamp}
use Rattle.rowtypes.specs.Elements.{Elements}
use Rattle.rowplan.specs.declared.batch_plan.RowPolicy.{RowPolicy}
use Rattle.rowplan.specs.declared.batch_plan.RowPolicy.TheVariants.{Dense, DenseWithRetry, ValidOnly}
use Rattle.rowplan.specs.Arguments.{Element, alone, number_element, pair, scale_element, timestamp_element}
use Rattle.rowplan.specs.Constructors.{Stored, fails_is_lawful, fails_with}
pub use Rattle.rowplan.specs.Constructors.{false, texts_of, total, total_is_lawful, true}
use Rattle.rowplan.specs.Law.{Lawful, RowLaw, accepted_is_lawful, accepted_where, labelled, labelled_is_lawful}
use Rattle.rowplan.specs.Outcomes.{Outcome, done}

-- ---- numbers of 64 bits, as arguments and as the output

abbrev pub i64_element : Element
i64_element = number_element I64

abbrev pub i64_stored : Stored
i64_stored = record { type = primitive I64 NonNullable; placeholder = number (pos 0) }

-- ---- `wrapping_add`

-- the sum of two i64 modulo 2^64, as an i64; no other cells are read
abbrev pub wrapping_sum : List Cell → Cell
wrapping_sum (number x ∷ number y ∷ []) = number (int_wrapping_add w64 x y)
wrapping_sum _ = number (pos 0)

abbrev pub wrapping_adds : RowLaw NoFailure
wrapping_adds = total 2 (pair i64_element i64_element) Dense i64_stored wrapping_sum

-- ---- functions whose rows leave a truth value as evidence: whether the exact number is no i64

-- the number isn't an i64
abbrev pub is_outside : ℤ → Bool
is_outside z = not (in_range I64 z)

-- the exact number modulo 2^64, as an i64
abbrev pub wrapped : ℤ → Outcome Bool
wrapped z = done (number (int_wrap w64 z)) (is_outside z)

-- the law of a function that has an exact number for each row: the number modulo 2^64, and the error 1 where some number is no i64
abbrev pub exact : ℕ → Elements → RowPolicy → (List Cell → ℤ) → RowLaw Bool
exact arity arguments policy number_of =
    fails_with 1 arity arguments policy i64_stored (λ cells. number (int_wrap w64 (number_of cells))) (λ cells. is_outside (number_of cells))

pub exact_is_lawful : (arity : ℕ) (arguments : Elements) (policy : RowPolicy) (number_of : List Cell → ℤ)
    → Lawful (exact arity arguments policy number_of) arity false (λ _. ⊤) ◌||◌ false
exact_is_lawful arity arguments policy number_of =
    fails_is_lawful 1 arity arguments policy i64_stored (λ cells. number (int_wrap w64 (number_of cells))) (λ cells. is_outside (number_of cells))

-- ---- `checked_add`

-- the sum of two i64; no other cells are read
abbrev pub exact_sum : List Cell → ℤ
exact_sum (number x ∷ number y ∷ []) = x +ℤ y
exact_sum _ = pos 0

abbrev pub checked_adds : RowLaw Bool
checked_adds = exact 2 (pair i64_element i64_element) DenseWithRetry exact_sum

-- ---- `rescale`

-- the value times 10 to the power of the scale; no other cells are read
abbrev pub exact_product : List Cell → ℤ
exact_product (number x ∷ number (pos n) ∷ []) = x *ℤ pos (10 ^ n)
exact_product _ = pos 0

abbrev pub rescales : RowLaw Bool
rescales = exact 2 (pair i64_element scale_element) ValidOnly exact_product

-- ---- `truncate`

-- a timestamp type, not nullable
abbrev pub time_label : LogicalType → Option LogicalType
time_label t = if is_timestamp t then Some (with_nullability t NonNullable) else None

abbrev pub first_label : List LogicalType → Option LogicalType
first_label [] = None
first_label (t ∷ types) = time_label t

-- the value minus its remainder from 0 to ticks - 1; no other cells are read
abbrev pub exact_step : ℤ → List Cell → ℤ
exact_step ticks (number x ∷ []) = x -ℤ int_rem_euclid x ticks
exact_step ticks _ = pos 0

-- a step of at least one unit; what it gives is shown under the argument's type where that is a timestamp type
abbrev pub truncates : ℤ → List LogicalType → RowLaw Bool
truncates ticks types =
    accepted_where (is_positive ticks) (labelled (first_label types) (exact 1 (alone timestamp_element) DenseWithRetry (exact_step ticks)))

pub truncates_is_lawful : (ticks : ℤ) (types : List LogicalType) → Lawful (truncates ticks types) 1 false (λ _. ⊤) ◌||◌ false
truncates_is_lawful ticks types =
    accepted_is_lawful (is_positive ticks) (labelled_is_lawful (first_label types) (exact_is_lawful 1 (alone timestamp_element) DenseWithRetry (exact_step ticks)))
