-- The number of arguments, by the names and by the law.
use Rattle.std.proofs.Common.{◌≡◌, ℕ, List, subst}
use Rattle.std.specs.Prelude.{⊤, MatchResult, Result}
use Rattle.coltypes.specs.declared.fault.Fault.{Fault}
use Rattle.colbase.specs.Arrays.{Array}
use Rattle.rowexec.specs.Batch.{Fits, Misfits}

pub fits_as : (a b n : ℕ) (columns : List Array) (r : Result ⊤ Fault) → a ≡ b → MatchResult r (λ _. Fits a n columns) (Misfits a n columns) → MatchResult r (λ _. Fits b n columns) (Misfits b n columns)
fits_as a b n columns r e h =
    let Of : ℕ → Type 0 = λ k. MatchResult r (λ _. Fits k n columns) (Misfits k n columns) in
    subst Of e h
