-- What a planned call rests on, and how often an engine was called, so that a clause of a program can say that its result was executed.
use Rattle.std.specs.Prelude.{◌≡◌, ◌<◌, ℕ, ◌+◌, ◌-◌, ◌^◌, min, List, length, true, false, is_some}
use Rattle.colbase.specs.Arrays.{Array}
use Rattle.coltypes.specs.LogicalType.{LogicalType}
use Rattle.coltypes.specs.Valid.{Covers, valid_at, validity_nullability}
use Rattle.coltypes.specs.declared.dtype.Nullability.TheVariants.{Nullable}
use Rattle.coltypes.specs.declared.validity.Validity.{Validity}
use Rattle.rowplan.specs.Law.{RowLaw}
use Rattle.rowplan.specs.Outputs.{any_nullable}
use Rattle.rowplan.specs.Plans.{PlanOf}
use Rattle.rowplan.specs.declared.batch_plan.BatchPlan.{BatchPlan}
use Rattle.rowexec.specs.Batch.{Planned}
use Rattle.rowexec.specs.Rows.{EachHasRows, full_cells, some_all_null, types_of}

-- one call more, up to the last value
abbrev pub Raised : ℕ → ℕ → Type 0
Raised before now = now ≡ min (before + 1) (2 ^ 64 - 1)

-- the validity marks the rows of n at which no argument is null
pub record MarksRows (columns : List Array) (n : ℕ) (full : Validity) : Type 0 where
  pub tells : (i : ℕ) → i < n → valid_at full i ≡ is_some (full_cells columns i)
  pub covers : Covers full n
  pub nullable : validity_nullability full ≡ Nullable → any_nullable (types_of columns) ≡ true

-- these are the types of columns of n rows, as many as the function has arguments, the call is planned so, no column is told to be null at each row, and the full rows are marked
pub record IsPlannedCall {E : Type 0} (law : RowLaw E) (types : List LogicalType) (columns : List Array) (n : ℕ) (plan : BatchPlan) (full : Validity) : Type 0 where
  pub types_are : types ≡ types_of columns
  pub arity : length columns ≡ law.arity
  pub rows : EachHasRows n columns
  pub planned : Planned law (types_of columns)
  pub plan_is : PlanOf law plan
  pub some : some_all_null columns ≡ false
  pub marks : MarksRows columns n full
