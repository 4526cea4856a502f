-- Evidence that is joined over the rows of a batch, and what is told where it isn't accepted: which rows are joined decides which
-- failures a caller sees.
use Rattle.std.specs.Prelude.{◌≡◌, ◌≢◌, ◌<◌, ⊤, ℕ, zero, suc, Bool, true, false, List, Option, None, Some}
use Rattle.colbase.specs.Arrays.{Array}
use Rattle.coltypes.specs.Cell.{Cell}
use Rattle.coltypes.specs.declared.fault.Fault.{Fault}
use Rattle.coltypes.specs.declared.fault.Fault.TheVariants.{Row}
use Rattle.rowtypes.specs.Rows.{shown_from}
use Rattle.rowplan.specs.Law.{RowLaw}
use Rattle.rowplan.specs.Outcomes.{Outcome, done, failed}
use Rattle.rowexec.specs.Rows.{full_cells}

-- the evidence of an outcome; that of an error is neutral
abbrev pub evidence_of : {E : Type 0} → E → Outcome E → E
evidence_of neutral (done c e) = e
evidence_of neutral (failed code) = neutral

-- with the evidence of one row more, where that row has cells
abbrev pub joined_with : {E : Type 0} → (E → E → E) → E → (List Cell → Outcome E) → E → Option (List Cell) → E
joined_with join neutral meaning total None = total
joined_with join neutral meaning total (Some cells) = join total (evidence_of neutral (meaning cells))

-- the evidence of the rows below n that have cells, joined in rising order, beginning with the neutral value
abbrev pub joined : {E : Type 0} → (E → E → E) → E → (List Cell → Outcome E) → (ℕ → Option (List Cell)) → ℕ → E
joined join neutral meaning cells zero = neutral
joined join neutral meaning cells (suc n) = joined_with join neutral meaning (joined join neutral meaning cells n) (cells n)

-- what the arguments show at row i, null or not
abbrev pub shown_cells : (ℕ → Array → ℕ → Cell) → List Array → ℕ → Option (List Cell)
shown_cells shown columns i = Some (shown_from shown 0 columns i)

abbrev pub is_accepted : Option ℕ → Bool
is_accepted None = true
is_accepted (Some code) = false

-- the failures of the function are evidence, this evidence is not accepted, and the fault carries what it is judged
pub record EvidenceFails {E : Type 0} (deferred : Bool) (finish : E → Option ℕ) (evidence : E) (e : Fault) : Type 0 where
  pub code : ℕ
  pub is_deferred : deferred ≡ true
  pub judged : finish evidence ≡ Some code
  pub is : e ≡ Row (record { 0 = code })

-- the full rows below n fail: their joined evidence isn't accepted
abbrev pub RowsFail : {E : Type 0} → RowLaw E → List Array → ℕ → Fault → Type 0
RowsFail law columns n = EvidenceFails law.deferred law.finish (joined law.join law.neutral law.meaning (full_cells columns) n)

-- an outcome that is an error, or whose evidence isn't accepted
abbrev pub OutcomeFails : {E : Type 0} → (E → Option ℕ) → Outcome E → Type 0
OutcomeFails finish (done c e) = finish e ≢ None
OutcomeFails finish (failed code) = ⊤

-- some row below n without a null argument fails
pub record FailingRow {E : Type 0} (law : RowLaw E) (columns : List Array) (n : ℕ) : Type 0 where
  pub place : ℕ
  pub below : place < n
  pub cells : List Cell
  pub full : full_cells columns place ≡ Some cells
  pub fails : OutcomeFails law.finish (law.meaning cells)
