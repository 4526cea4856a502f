-- What a batch call answers, and why it refuses. A cause is a sum in the order of the checks, each part under what held before it, so
-- that the arguments determine which fault is told.
use Rattle.std.specs.Prelude.{◌≡◌, ◌≢◌, ◌<◌, ◌≤◌, ℕ, Bool, true, false, List, length, None, Some, ◌⊎◌, Result, Err, IfOk, IfErr, is_some}
use Rattle.bitlane.specs.Bits.{bit}
use Rattle.colbase.specs.Arrays.{Array, dtype, len, row}
use Rattle.coltypes.specs.LogicalType.{LogicalType}
use Rattle.coltypes.specs.LogicalTypeOf.{logical_type}
use Rattle.coltypes.specs.Keep.{trues}
use Rattle.coltypes.specs.Masks.{mask_bits, mask_of_bits}
use Rattle.coltypes.specs.declared.mask.Mask.{Mask}
use Rattle.coltypes.specs.declared.dtype.DType.{DType}
use Rattle.coltypes.specs.declared.fault.Fault.{Fault}
use Rattle.coltypes.specs.declared.fault.Fault.TheVariants.{Arity, Memory, Refused}
use Rattle.rowtypes.specs.Rows.{first_refused}
use Rattle.rowplan.specs.Law.{RowLaw}
use Rattle.rowplan.specs.Outputs.{InOrder, output_type, stated_type}
use Rattle.rowplan.specs.Plans.{RefusesOutput, RefusesType}
use Rattle.rowexec.specs.Counts.{full_bits, most_prepares, one_row, settled, steps_of}
use Rattle.rowexec.specs.Evidence.{FailingRow, RowsFail}
use Rattle.rowexec.specs.Reads.{ReadFails, ReadsFull}
use Rattle.rowexec.specs.Rows.{IsConstant, StrictRow, full_cells, some_all_null, types_of, wrong_length}

-- the type is the output type, made nullable where some argument's type is
pub record StatedAs {E : Type 0} (law : RowLaw E) (types : List LogicalType) (t : LogicalType) : Type 0 where
  pub storage : LogicalType
  pub stored : law.output.storage ≡ Some storage
  pub is : t ≡ stated_type (output_type storage law.output.label) types

-- the arguments are as many as the function has, each of n rows
pub record Fits (arity n : ℕ) (columns : List Array) : Type 0 where
  pub as_many : length columns ≡ arity
  pub rows : wrong_length n 0 columns ≡ None

-- the function takes the types, its elements accept them, and its output is in order
pub record Planned {E : Type 0} (law : RowLaw E) (types : List LogicalType) : Type 0 where
  pub accepted : law.accepts ≡ true
  pub fit : first_refused law.arguments.accepts 0 types ≡ None
  pub in_order : InOrder law.output.storage law.output.label

-- the fault of the arguments: their number, and then the first of another length
abbrev pub Misfits : ℕ → ℕ → List Array → Fault → Type 0
Misfits arity n columns e =
    ((length columns ≢ arity) × (e ≡ Arity arity (length columns))) ⊎ ((length columns ≡ arity) × (wrong_length n 0 columns ≡ Some e))

-- the fault of the types: that the function doesn't take them, then the first that its element doesn't accept, then the output
abbrev pub Unplanned : {E : Type 0} → RowLaw E → List LogicalType → Fault → Type 0
Unplanned law types e =
    ((law.accepts ≡ false) × (e ≡ Refused)) ⊎ ((law.accepts ≡ true) × (RefusesType law types e ⊎ RefusesOutput law types e))

-- the rows fail by their joined evidence, and some row does
pub record RowCause {E : Type 0} (law : RowLaw E) (columns : List Array) (n : ℕ) (e : Fault) : Type 0 where
  pub judged : RowsFail law columns n e
  pub failing : FailingRow law columns n

-- why a run fails: want of memory, a cell that isn't read, or a failure of rows; these are told only where the call isn't settled before
abbrev pub RunFails : {E : Type 0} → RowLaw E → List Array → ℕ → Fault → Type 0
RunFails law columns n e =
    (e ≡ Memory) ⊎ ((settled law.policy n columns ≡ false) × (ReadFails law.arguments.reads 0 columns e ⊎ RowCause law columns n e))

-- why a call is refused, in order
abbrev pub Cause : {E : Type 0} → RowLaw E → List Array → ℕ → Fault → Type 0
Cause law columns n e =
    Misfits law.arity n columns e ⊎ (Fits law.arity n columns × ((e ≡ Memory) ⊎ (Unplanned law (types_of columns) e ⊎ (Planned law (types_of columns) × RunFails law columns n e))))

-- the layout of an answer: a constant where one row stands for all, and where nothing is decoded since no row is full
pub record ConstantLayout (one settled : Bool) (a : Array) : Type 0 where
  pub one_value : one ≡ true → IsConstant a
  pub nulls : settled ≡ true → IsConstant a

-- what a call over columns of n rows answers, each part in the order in which it is decided
pub record Executes {E : Type 0} (law : RowLaw E) (columns : List Array) (n : ℕ) (result : Result Array Fault) : Type 0 where
  pub arity : length columns ≢ law.arity → result ≡ Err (Arity law.arity (length columns))
  pub fits : IfOk result (λ _. Fits law.arity n columns)
  pub planned : IfOk result (λ _. Planned law (types_of columns))
  pub dtype : IfOk result (λ a. StatedAs law (types_of columns) (dtype a))
  pub read : IfOk result (λ _. ReadsFull law columns n)
  pub none_fails : IfOk result (λ _. FailingRow law columns n → ⊥)
  pub len : IfOk result (λ a. len a ≡ n)
  pub rows : IfOk result (λ a. (i : ℕ) → i < n → StrictRow law (full_cells columns i) (row a i))
  pub layout : IfOk result (ConstantLayout (one_row n columns) (settled law.policy n columns))
  pub errors : IfErr result (Cause law columns n)

-- the same of a call whose columns fit and which is planned
pub record ExecutesPlanned {E : Type 0} (law : RowLaw E) (columns : List Array) (n : ℕ) (result : Result Array Fault) : Type 0 where
  pub dtype : IfOk result (λ a. StatedAs law (types_of columns) (dtype a))
  pub read : IfOk result (λ _. ReadsFull law columns n)
  pub len : IfOk result (λ a. len a ≡ n)
  pub rows : IfOk result (λ a. (i : ℕ) → i < n → StrictRow law (full_cells columns i) (row a i))
  pub layout : IfOk result (ConstantLayout (one_row n columns) (settled law.policy n columns))
  pub errors : IfErr result (RunFails law columns n)

-- the values of the rows that ran as the answer: masked, under the label, and a constant where one row stands for all
pub record Finishes {E : Type 0} (law : RowLaw E) (columns : List Array) (n : ℕ) (result : Result Array Fault) : Type 0 where
  pub dtype : IfOk result (λ a. StatedAs law (types_of columns) (dtype a))
  pub len : IfOk result (λ a. len a ≡ n)
  pub rows : IfOk result (λ a. (i : ℕ) → i < n → StrictRow law (full_cells columns i) (row a i))
  pub one_value : IfOk result (λ a. one_row n columns ≡ true → IsConstant a)
  pub errors : IfErr result (λ e. e ≡ Memory)

-- how often a call that answered called `prepare` and the callback of a row
pub record Counts {E : Type 0} (law : RowLaw E) (columns : List Array) (n : ℕ) (result : Result Array Fault) (prepares steps : ℕ) : Type 0 where
  pub most : steps ≤ steps_of law columns n
  pub least : IfOk result (λ _. steps_of law columns n ≤ steps)
  pub prepared : prepares ≤ most_prepares law.policy
  pub none : some_all_null columns ≡ true → prepares ≡ 0

-- a call that isn't planned calls nothing
abbrev pub CallsNothing : {E : Type 0} → RowLaw E → List Array → ℕ → ℕ → ℕ → Type 0
CallsNothing law columns n prepares steps = (Fits law.arity n columns → Planned law (types_of columns) → ⊥) → (prepares ≡ 0) × (steps ≡ 0)

-- what the type of an answer is, or the first fault that doesn't look at columns
pub record Returns {E : Type 0} (law : RowLaw E) (types : List LogicalType) (result : Result DType Fault) : Type 0 where
  pub arity : length types ≢ law.arity → result ≡ Err (Arity law.arity (length types))
  pub stated : IfOk result (λ d. StatedAs law types (logical_type d))
  pub planned : IfOk result (λ _. Planned law types)
  pub errors : IfErr result (λ e. ((length types ≢ law.arity) × (e ≡ Arity law.arity (length types))) ⊎ ((length types ≡ law.arity) × ((e ≡ Memory) ⊎ Unplanned law types e)))

-- the rows at which no argument is null are marked, in the form that their number determines: all, none, or a list of truth values
pub record MarksFull (arity : ℕ) (columns : List Array) (n : ℕ) (result : Result Mask Fault) : Type 0 where
  pub fits : IfOk result (λ _. Fits arity n columns)
  pub len : IfOk result (λ m. length (mask_bits m) ≡ n)
  pub rows : IfOk result (λ m. (i : ℕ) → i < n → bit (mask_bits m) i ≡ is_some (full_cells columns i))
  pub form : IfOk result (λ m. 0 < n → m ≡ mask_of_bits (full_bits n columns) (trues (full_bits n columns)))
  pub errors : IfErr result (λ e. Misfits arity n columns e ⊎ (Fits arity n columns × (e ≡ Memory)))
