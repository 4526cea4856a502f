-- Which rows a run goes over, as numbers and functions of them, and what a run of them leaves.
use Rattle.std.specs.Prelude.{◌≡◌, ◌≤◌, ℕ, Bool, true, false, List, length, Result, IfOk, IfErr}
use Rattle.bitlane.specs.Bits.{bit}
use Rattle.bitlane.specs.Maps.{Joined}
use Rattle.bitlane.specs.declared.failure_evidence.NoFailure.{NoFailure}
use Rattle.colbase.specs.Arrays.{Array, dtype, len, row}
use Rattle.coltypes.specs.Cell.{Cell}
use Rattle.coltypes.specs.Keep.{place, trues}
use Rattle.coltypes.specs.LogicalType.{LogicalType}
use Rattle.coltypes.specs.declared.fault.Fault.{Fault}
use Rattle.coltypes.specs.declared.fault.Fault.TheVariants.{Memory}
use Rattle.rowloops.specs.Answers.{StatesChecked}
use Rattle.rowloops.specs.declared.domain.RowDomain.{RowDomain}
use Rattle.rowloops.specs.declared.domain.RowDomain.TheVariants.{All, Marked, Filtered}

-- width: how many rows the decoded columns have
-- selected: which of these run
-- count: how many run
-- rows: how many rows the answer has
-- place: the row of the answer where that of a decoded row stands
-- tolerant: the columns are decoded with their nulls
pub record Domain : Type 0 where
  pub width : ℕ
  pub selected : ℕ → Bool
  pub count : ℕ
  pub rows : ℕ
  pub place : ℕ → ℕ
  pub tolerant : Bool

-- all n rows, where they stand
abbrev pub all_rows : ℕ → Domain
all_rows n = record { width = n; selected = λ i. true; count = n; rows = n; place = λ i. i; tolerant = false }

-- the rows that are marked, of columns as they are
abbrev pub marked_rows : List Bool → Domain
marked_rows marks = record { width = length marks; selected = bit marks; count = trues marks; rows = length marks; place = λ i. i; tolerant = true }

-- all rows of columns that were filtered to the marked rows, each at the row that it was filtered from
abbrev pub filtered_rows : List Bool → Domain
filtered_rows marks = record { width = trues marks; selected = λ i. true; count = trues marks; rows = length marks; place = place marks; tolerant = false }

abbrev pub domain_of : RowDomain → Domain
domain_of (All rows) = all_rows rows
domain_of (Marked marks) = marked_rows marks.now
domain_of (Filtered marks) = filtered_rows marks.now

-- a column with the value of an answer at the place of each row that ran, and the evidence of these answers; or want of memory. How often was called is told.
pub record RunsOver {X T E : Type 0} (join : E → E → E) (neutral : E) (domain : Domain) (may_be : ℕ → X → Type 0) (post : X → T × E → Type 0) (states : T → Cell)
    (stored : LogicalType) (answer : Result (Array × E) Fault) (steps : ℕ) : Type 0 where
  pub dtype : IfOk answer (λ r. dtype r.0 ≡ stored)
  pub len : IfOk answer (λ r. len r.0 ≡ domain.rows)
  pub each : IfOk answer (λ r. Joined join neutral domain.selected (λ i v. StatesChecked (may_be i) post states (row r.0 (domain.place i)) v) domain.width r.1)
  pub errors : IfErr answer (λ e. e ≡ Memory)
  pub most : steps ≤ domain.count
  pub least : IfOk answer (λ r. domain.count ≤ steps)

-- the same of a callback that gives a value alone
abbrev pub RunsTotal : {X T : Type 0} → Domain → (ℕ → X → Type 0) → (X → T → Type 0) → (T → Cell) → LogicalType → Result (Array × NoFailure) Fault → ℕ → Type 0
RunsTotal {X} {T} domain may_be post states = RunsOver (λ (a b : NoFailure). a) (record {}) domain may_be (λ x r. post x r.0) states
