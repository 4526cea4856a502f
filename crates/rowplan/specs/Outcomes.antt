-- What a row of a row function comes to, and the laws that let evidence of many rows be judged once.
use Rattle.std.specs.Prelude.{◌≡◌, ℕ, Option, None, Some, Result, Ok, Err, ⊤}
use Rattle.coltypes.specs.Cell.{Cell}
use Rattle.coltypes.specs.declared.fault.RowError.{RowError}

-- a cell with evidence, or the code of an error
pub data Outcome (E : Type 0) : Type 0 where
  done : Cell → E → Outcome E
  failed : ℕ → Outcome E

-- no outcome of the row is an error, and its evidence is accepted
abbrev pub NeverFails : {E : Type 0} → (E → Option ℕ) → Outcome E → Type 0
NeverFails finish (done c e) = finish e ≡ None
NeverFails finish (failed code) = ⊥

abbrev pub EvidenceIs : {E : Type 0} → (E → Type 0) → Outcome E → Type 0
EvidenceIs holds (done c e) = holds e
EvidenceIs holds (failed code) = ⊤

abbrev pub IsDone : {E : Type 0} → Outcome E → Type 0
IsDone (done c e) = ⊤
IsDone (failed code) = ⊥

-- the default is accepted, and a join is accepted exactly where both of its parts are
pub record FinishLaws (E : Type 0) (in_range : E → Type 0) (join : E → E → E) (neutral : E) (finish : E → Option ℕ) : Type 0 where
  pub accepts_neutral : finish neutral ≡ None
  pub accepts_parts : (a b : E) → in_range a → in_range b → finish (join a b) ≡ None → (finish a ≡ None) × (finish b ≡ None)
  pub accepts_join : (a b : E) → in_range a → in_range b → finish a ≡ None → finish b ≡ None → finish (join a b) ≡ None

-- what a judgement of evidence answers
abbrev pub judged : Option ℕ → Result ⊤ RowError
judged None = Ok tt
judged (Some code) = Err (record { 0 = code })
