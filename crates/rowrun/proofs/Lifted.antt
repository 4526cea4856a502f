-- The column that an engine answers is the result of the batch.
use Rattle.std.proofs.Common.{◌≡◌, ◌∙◌, ℕ, List, None, sym, subst, arith}
use Rattle.std.specs.Prelude.{IfOk, Result, Ok, Err}
use Rattle.bitlane.proofs.Tables.{length-tabulate, get_or-tabulate}
use Rattle.colbase.specs.Arrays.{Array, column, len, row}
use Rattle.coltypes.specs.declared.fault.Fault.{Fault}
use Rattle.rowplan.specs.Law.{RowLaw}
use Rattle.rowexec.specs.Batch.{Executes}
use Rattle.rowexec.specs.Rows.{StrictRow, full_cells}
use Rattle.rowrun.specs.Results.{IsResultOf, ResultOf}
use Rattle.rowrun.specs.declared.batch.Call.{Call}

-- what an engine says of its column
pub result_column : {E : Type 0} (law : RowLaw E) (n : ℕ) (columns : List Array) (r : Result Array Fault) → Executes law columns n r → IfOk r (λ a. ResultOf law n columns (column a))
result_column law n columns (Ok a) said = record {
  fit = said.fits;
  planned = said.planned;
  read = said.read;
  stated = said.dtype;
  counted = length-tabulate (row a) (len a) ∙ said.len;
  each = λ i within. subst (StrictRow law (full_cells columns i)) (sym (get_or-tabulate (row a) (len a) i None (omega (arith, within, said.len)))) (said.rows i within);
}
result_column law n columns (Err e) said = tt

-- the same for the call of a batch, by its name
pub of_call : (call named : Call) (n : ℕ) (columns : List Array) (r : Result Array Fault) → call ≡ named → IfOk r (λ a. IsResultOf named n columns (column a)) → IfOk r (λ a. IsResultOf call n columns (column a))
of_call call named n columns r is result = subst (λ (k : Call). IfOk r (λ a. IsResultOf k n columns (column a))) (sym is) result
