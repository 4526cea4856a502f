-- What the runs above the visitor answer for a call, by the law of the function, so that the lemmas about batches name no program type.
use Rattle.std.specs.Prelude.{◌≡◌, ◌⊎◌, ℕ, ◌<◌, ◌≤◌, false, List, Option, None, Some, IfSome, MatchOption, Result, MatchResult, IfOk}
use Rattle.colbase.specs.Arrays.{Array, dtype, len, row}
use Rattle.coltypes.specs.Cell.{Cell}
use Rattle.coltypes.specs.declared.fault.Fault.{Fault}
use Rattle.coltypes.specs.declared.fault.Fault.TheVariants.{Memory}
use Rattle.rowplan.specs.Law.{RowLaw}
use Rattle.rowplan.specs.declared.batch_plan.RowPolicy.{RowPolicy}
use Rattle.rowplan.specs.declared.batch_plan.RowPolicy.TheVariants.{Dense}
use Rattle.rowexec.specs.Counts.{most_prepares, settled, steps_of}
use Rattle.rowexec.specs.Evidence.{RowsFail}
use Rattle.rowexec.specs.Reads.{ReadFails, ReadsFull}
use Rattle.rowexec.specs.Rows.{Accepted, full_cells}
use Rattle.rowexec.specs.RowRuns.{FullAt}

-- all n rows may run, and no failure under a null is told: the policy is to run all rows, or no argument is null at any of them
abbrev pub MayRunAll : RowPolicy → ℕ → List Array → Type 0
MayRunAll policy n columns = (policy ≡ Dense) ⊎ ((i : ℕ) → i < n → FullAt i columns)

-- n rows of the storage type: at each row without a null argument the outcome of the cells there, which is accepted
pub record ValidColumn {E : Type 0} (law : RowLaw E) (columns : List Array) (n : ℕ) (a : Array) : Type 0 where
  pub stored : law.output.storage ≡ Some (dtype a)
  pub counted : len a ≡ n
  pub each : (i : ℕ) (cells : List Cell) → i < n → full_cells columns i ≡ Some cells → Accepted law cells (row a i)
  pub read : ReadsFull law columns n

-- why n rows of columns fail: an argument is not read, of several not always the lowest, or rows fail
abbrev pub CallFails : {E : Type 0} → RowLaw E → List Array → ℕ → Fault → Type 0
CallFails law columns n e = ReadFails law.arguments.reads 0 columns e ⊎ RowsFail law columns n e

-- there is a row, and some argument is null at each
abbrev pub NoneFull : ℕ → List Array → Type 0
NoneFull n columns = (0 < n) × ((i : ℕ) → i < n → full_cells columns i ≡ None)

-- the values of the rows of a call, or none where no row is full
abbrev pub Answers : {E : Type 0} → RowLaw E → List Array → ℕ → Result (Option Array) Fault → Type 0
Answers law columns n answer =
    MatchResult answer (λ o. MatchOption o (NoneFull n columns) (ValidColumn law columns n)) (CallFails law columns n)

-- a run that answers for a call, by at most so many calls of `prepare` and exactly so many steps where it answers
pub record RunsSteps {E : Type 0} (law : RowLaw E) (columns : List Array) (n asked limit : ℕ) (answer : Result (Option Array) Fault) (prepares steps : ℕ) : Type 0 where
  pub answered : Answers law columns n answer
  pub prepared : prepares ≤ limit
  pub most : steps ≤ asked
  pub least : IfOk answer (λ o. asked ≤ steps)

-- values whose rows are all the first row of these, or want of memory
abbrev pub RepeatsRow : Array → ℕ → Result (Option Array) Fault → Type 0
RepeatsRow one n answer = MatchResult answer (λ o. MatchOption o ⊥ (λ a. (dtype a ≡ dtype one) × (len a ≡ n) × ((i : ℕ) → row a i ≡ row one 0))) (λ e. e ≡ Memory)

-- the run of a whole call, by the rows that its policy selects
abbrev pub RunsCall : {E : Type 0} → RowLaw E → List Array → ℕ → Result (Option Array) Fault → ℕ → ℕ → Type 0
RunsCall law columns n = RunsSteps law columns n (steps_of law columns n) (most_prepares law.policy)

-- a run that failed, or gave values, is of a call that isn't settled before it
abbrev pub Unsettled : {E : Type 0} → RowLaw E → List Array → ℕ → Result (Option Array) Fault → Type 0
Unsettled law columns n answer =
    MatchResult answer (λ o. IfSome o (λ _. settled law.policy n columns ≡ false)) (λ _. settled law.policy n columns ≡ false)
