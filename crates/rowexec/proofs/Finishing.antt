-- From labelled values to the column of a call.
use Rattle.std.proofs.Common.{◌≡◌, ◌∙◌, ℕ, ◌<◌, true, false, List, Option, Result, Ok, Err, subst, sym}
use Rattle.std.specs.Prelude.{IfErr, IfOk}
use Rattle.colbase.specs.Arrays.{Array, dtype, len, row}
use Rattle.coltypes.specs.Cell.{Cell}
use Rattle.coltypes.specs.declared.fault.Fault.{Fault}
use Rattle.coltypes.specs.declared.fault.Fault.TheVariants.{Memory}
use Rattle.rowplan.specs.Law.{RowLaw}
use Rattle.rowexec.specs.Batch.{Finishes, StatedAs}
use Rattle.rowexec.specs.Counts.{one_row}
use Rattle.rowexec.specs.Rows.{IsConstant, StrictRow, full_cells, types_of}
use Rattle.rowexec.proofs.OneRow.{each_of_one, each_row, some_rows}

strict_at : {E : Type 0} (law : RowLaw E) (o p : Option (List Cell)) (r s : Option Cell) → o ≡ p → r ≡ s → StrictRow law p s → StrictRow law o r
strict_at law o p r s e f h =
    let Of : Option (List Cell) → Type 0 = λ x. StrictRow law x r in
    let Row : Option Cell → Type 0 = λ x. StrictRow law p x in
    subst Of (sym e) (subst Row (sym f) h)

-- the labelled value of the one row, repeated
pub repeated_finishes : {E : Type 0} (law : RowLaw E) (columns : List Array) (n : ℕ) (labelled : Array) (r : Result Array Fault) → one_row n columns ≡ true
    → StatedAs law (types_of columns) (dtype labelled) → ((i : ℕ) → i < n → StrictRow law (full_cells columns i) (row labelled i))
    → IfOk r (λ a. dtype a ≡ dtype labelled) → IfOk r (λ a. len a ≡ n) → IfOk r (λ a. (i : ℕ) → row a i ≡ row labelled 0) → IfOk r IsConstant → IfErr r (λ e. e ≡ Memory) → Finishes law columns n r
repeated_finishes law columns n labelled (Ok a) one stated rows typed counted each constant wants =
    let same = each_row columns (each_of_one n columns one) in
    record {
      dtype = subst (StatedAs law (types_of columns)) (sym typed) stated;
      len = counted;
      rows = λ i h. strict_at law (full_cells columns i) (full_cells columns 0) (row a i) (row labelled 0) (same.each i ∙ sym (same.each 0)) (each i) (rows 0 (some_rows n columns one));
      one_value = λ o. constant;
      errors = tt;
    }
repeated_finishes law columns n labelled (Err e) one stated rows typed counted each constant wants = record { dtype = tt; len = tt; rows = tt; one_value = tt; errors = wants }

-- labelled values as they are, where no row stands for all
pub labelled_finishes : {E : Type 0} (law : RowLaw E) (columns : List Array) (n : ℕ) (labelled : Array) → one_row n columns ≡ false
    → StatedAs law (types_of columns) (dtype labelled) → len labelled ≡ n → ((i : ℕ) → i < n → StrictRow law (full_cells columns i) (row labelled i)) → Finishes law columns n (Ok labelled)
labelled_finishes law columns n labelled one stated counted rows = record {
  dtype = stated;
  len = counted;
  rows = rows;
  one_value = λ o. let impossible : false ≡ true = sym one ∙ o in absurd (cc);
  errors = tt;
}
