-- What the loops leave at a row, and what its evidence is judged. The value and the evidence of a row are tied to one answer of the
-- callback, so that neither can come from another call.
use Rattle.std.specs.Borrow.{Bor}
use Rattle.std.specs.Prelude.{◌≡◌, ⊤, Option, Some, Result, Ok, Err}
use Rattle.bitlane.specs.Maps.{MapsTo}
use Rattle.colbase.specs.Arrays.{Array}
use Rattle.coltypes.specs.Cell.{Cell}
use Rattle.coltypes.specs.declared.fault.RowError.{RowError}
use Rattle.rowloops.specs.declared.attempt.Attempt.{Attempt}
use Rattle.rowloops.specs.declared.attempt.Attempt.TheVariants.{Rejected, Values}

-- the row is the cell of an answer's value, and the evidence is that of the same answer
pub record StatesChecked {X T E : Type 0} (may_be : X → Type 0) (post : X → T × E → Type 0) (states : T → Cell) (row : Option Cell) (evidence : E) : Type 0 where
  pub value : T
  pub maps : MapsTo may_be post (value, evidence)
  pub is : row ≡ Some (states value)

-- an answer of a callback that was lent a value
abbrev pub AnswersLent : {P X R : Type 0} → (Bor P → X → R → Type 0) → P → X → R → Type 0
AnswersLent {P} post value x r = (q : Bor P) × (q.now ≡ value) × post q x r

-- the values where the evidence is accepted, and else what it is judged
abbrev pub AttemptIs : (Result ⊤ RowError → Type 0) → Array → Attempt → Type 0
AttemptIs post values (Values a) = post (Ok tt) × (a ≡ values)
AttemptIs post values (Rejected error) = post (Err error)
