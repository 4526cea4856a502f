-- How many rows a batch runs, by its layouts and its policy. No contract can count the calls of a callback; these are the counts that
-- the loops tell.
use Rattle.std.specs.Prelude.{ℕ, ◌+◌, Bool, ◌&&◌, ◌||◌, ◌==◌, true, false, List, [], ◌∷◌, nat_lt, is_some, if◌then◌else◌}
use Rattle.bitlane.specs.Bits.{tabulate}
use Rattle.colbase.specs.Arrays.{Array}
use Rattle.coltypes.specs.Keep.{trues}
use Rattle.colbase.specs.Parts.{own_validity}
use Rattle.coltypes.specs.Valid.{validity_kind}
use Rattle.coltypes.specs.declared.validity.ValidityKind.{ValidityKind}
use Rattle.coltypes.specs.declared.validity.ValidityKind.TheVariants.{AllNull, NoNulls, MayHoldNulls}
use Rattle.rowelems.specs.Shown.{batch_value}
use Rattle.rowplan.specs.declared.batch_plan.RowPolicy.{RowPolicy}
use Rattle.rowplan.specs.declared.batch_plan.RowPolicy.TheVariants.{Dense, DenseWithRetry, ValidOnly}
use Rattle.rowplan.specs.Law.{RowLaw}
use Rattle.rowexec.specs.Evidence.{is_accepted, joined, shown_cells}
use Rattle.rowexec.specs.Rows.{full_cells, some_all_null}

abbrev pub is_no_nulls : ValidityKind → Bool
is_no_nulls AllNull = false
is_no_nulls NoNulls = true
is_no_nulls MayHoldNulls = false

-- told to have no nulls, and a batch constant: its value stands in each row
abbrev pub is_one_value : Array → Bool
is_one_value a = is_no_nulls (validity_kind (own_validity a)) && is_some (batch_value a)

abbrev pub each_one_value : List Array → Bool
each_one_value [] = true
each_one_value (a ∷ arrays) = is_one_value a && each_one_value arrays

abbrev pub some_column : List Array → Bool
some_column [] = false
some_column (a ∷ arrays) = true

-- one row stands for all n rows: there is a row and a column, and each column is one value
abbrev pub one_row : ℕ → List Array → Bool
one_row n columns = nat_lt 0 n && (some_column columns && each_one_value columns)

-- the rows below n, marked true where no argument is null
abbrev pub full_bits : ℕ → List Array → List Bool
full_bits n columns = tabulate (λ i. is_some (full_cells columns i)) n

abbrev pub runs_valid_only : RowPolicy → Bool
runs_valid_only Dense = false
runs_valid_only DenseWithRetry = false
runs_valid_only ValidOnly = true

-- the full rows of n rows that run once more after all rows: none where all of them are full
abbrev pub retried : ℕ → ℕ → ℕ
retried full n = if full == n then 0 else full

-- the rows that a policy runs of n rows, by whether the evidence of a run of all rows is accepted
abbrev pub policy_steps : RowPolicy → Bool → ℕ → List Array → ℕ
policy_steps Dense accepted n columns = n
policy_steps DenseWithRetry accepted n columns = if accepted then n else n + retried (trues (full_bits n columns)) n
policy_steps ValidOnly accepted n columns = trues (full_bits n columns)

-- the rows that a batch of n rows runs: none where some column is told to be null at each row, one where one stands for all, and else those of the policy
abbrev pub steps_asked : RowPolicy → Bool → ℕ → List Array → ℕ
steps_asked policy accepted n columns =
    if some_all_null columns then 0 else if one_row n columns then 1 else policy_steps policy accepted n columns

-- whether the evidence of a run of all n rows on what the columns show is accepted
abbrev pub dense_accepted : {E : Type 0} → RowLaw E → List Array → ℕ → Bool
dense_accepted law columns n =
    is_accepted (law.finish (joined law.join law.neutral law.meaning (shown_cells law.arguments.shown columns) n))

-- the calls of `prepare` at most
abbrev pub most_prepares : RowPolicy → ℕ
most_prepares Dense = 1
most_prepares DenseWithRetry = 2
most_prepares ValidOnly = 1

-- nothing is decoded: some column is told to be null at each row, or the policy runs the rows without a null alone and none of the rows is such
abbrev pub settled : RowPolicy → ℕ → List Array → Bool
settled policy n columns = some_all_null columns || (runs_valid_only policy && (nat_lt 0 n && (trues (full_bits n columns) == 0)))

-- the rows that a policy runs of a call, and those that the whole call runs
abbrev pub policy_steps_of : {E : Type 0} → RowLaw E → List Array → ℕ → ℕ
policy_steps_of law columns n = policy_steps law.policy (dense_accepted law columns n) n columns

abbrev pub steps_of : {E : Type 0} → RowLaw E → List Array → ℕ → ℕ
steps_of law columns n = steps_asked law.policy (dense_accepted law columns n) n columns
