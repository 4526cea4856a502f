-- What the call of a batch answers: the column that is its result, or the faults that have a cause. Both are those of an engine's call of
-- the function, by its law.
use Rattle.std.specs.Prelude.{◌≡◌, ℕ, ◌<◌, List, length, get_or, None}
use Rattle.colbase.specs.Arrays.{Array}
use Rattle.colbase.specs.Column.{Column}
use Rattle.coltypes.specs.declared.fault.Fault.{Fault}
use Rattle.coltypes.specs.declared.fault.Fault.TheVariants.{Memory}
use Rattle.rowplan.specs.Law.{RowLaw}
use Rattle.rowexec.specs.Batch.{Cause, Fits, Planned, StatedAs}
use Rattle.rowexec.specs.Reads.{ReadsFull}
use Rattle.rowexec.specs.Rows.{StrictRow, full_cells, types_of}
use Rattle.rowsample.specs.Functions.{checked_adds, rescales, truncates, wrapping_adds}
use Rattle.rowrun.specs.Batch.{Batch}
use Rattle.rowrun.specs.declared.batch.Call.{Call}
use Rattle.rowrun.specs.declared.batch.Call.TheVariants.{WrappingAdd, CheckedAdd, Rescale, Truncate}

-- the column is the strict lifting of a row function to n rows of columns that it takes, in the stated type, and each full row was read
pub record ResultOf {E : Type 0} (law : RowLaw E) (n : ℕ) (columns : List Array) (c : Column) : Type 0 where
  pub fit : Fits law.arity n columns
  pub planned : Planned law (types_of columns)
  pub read : ReadsFull law columns n
  pub stated : StatedAs law (types_of columns) c.dtype
  pub counted : length c.rows ≡ n
  pub each : (i : ℕ) → i < n → StrictRow law (full_cells columns i) (get_or c.rows i None)

abbrev pub IsResultOf : Call → ℕ → List Array → Column → Type 0
IsResultOf WrappingAdd n columns c = ResultOf wrapping_adds n columns c
IsResultOf CheckedAdd n columns c = ResultOf checked_adds n columns c
IsResultOf Rescale n columns c = ResultOf rescales n columns c
IsResultOf (Truncate o) n columns c = ResultOf (truncates o.ticks (types_of columns)) n columns c

-- the column that the batch asks for
abbrev pub IsResult : Batch → Column → Type 0
IsResult b c = IsResultOf b.call b.row_count b.columns c

abbrev pub CauseOf : Call → ℕ → List Array → Fault → Type 0
CauseOf WrappingAdd n columns f = Cause wrapping_adds columns n f
CauseOf CheckedAdd n columns f = Cause checked_adds columns n f
CauseOf Rescale n columns f = Cause rescales columns n f
CauseOf (Truncate o) n columns f = Cause (truncates o.ticks (types_of columns)) columns n f

-- the called function refuses the batch with this fault; want of memory is told by a status of its own
pub record HasFault (b : Batch) (f : Fault) : Type 0 where
  pub told : f ≡ Memory → ⊥
  pub cause : CauseOf b.call b.row_count b.columns f
