-- One row that stands for all rows.
use Rattle.std.proofs.Common.{◌≡◌, ◌∙◌, ℕ, ◌<◌, Bool, true, false, ◌&&◌, arith, ◌≤◌, List, [], ◌∷◌, Option, None, Some, Result, Ok, Err, inl, inr, refl, ap, subst, sym}
use Rattle.std.proofs.lemmas.Bool.Decides.{nat_tests}
use Rattle.std.specs.Prelude.{cond, is_some, nat_lt, option_map}
use Rattle.bitlane.specs.Evidence.{JoinLaws}
use Rattle.colbase.specs.Arrays.{Array, constant, constant_cell, dtype, extension, len, masked, row}
use Rattle.coltypes.specs.Cell.{Cell}
use Rattle.coltypes.specs.CellOf.{cell_of}
use Rattle.colbase.specs.Parts.{own_validity}
use Rattle.coltypes.specs.Valid.{valid_at, validity_kind}
use Rattle.coltypes.specs.declared.fault.Fault.{Fault}
use Rattle.coltypes.specs.declared.fault.Fault.TheVariants.{Row}
use Rattle.coltypes.specs.declared.fault.RowError.{RowError}
use Rattle.coltypes.specs.declared.validity.Validity.{Validity}
use Rattle.coltypes.specs.declared.validity.Validity.TheVariants as v
use Rattle.rowtypes.specs.Rows.{decoded_lengths, each_length, shown_from}
use Rattle.rowelems.specs.Argument.{is_length, length_unless}
use Rattle.rowelems.specs.Shown.{batch_value}
use Rattle.rowplan.specs.Law.{Lawful, RowLaw}
use Rattle.rowexec.specs.Counts.{each_one_value, is_no_nulls, is_one_value, one_row, some_column}
use Rattle.rowloops.specs.Domain.{all_rows}
use Rattle.rowexec.specs.Evidence.{EvidenceFails}
use Rattle.rowexec.specs.RowRuns.{ColumnOver, RejectedOver}
use Rattle.rowexec.specs.Rows.{Accepted, EachHasRows, full_cells, with_cell}
use Rattle.rowexec.specs.Visits.{CallFails, RepeatsRow, RunsSteps, ValidColumn}
use Rattle.rowexec.proofs.Deciding.{failed_run, steps_some}
use Rattle.rowexec.proofs.Domains.{rejected_rows}
use Rattle.rowexec.proofs.Batches.{both_are, both_parts}
use Rattle.rowexec.proofs.FullRows.{picked}
use Rattle.rowexec.proofs.JoinedRows.{joined_first}
use Rattle.rowexec.proofs.Laws.{joins_lawfully}

no_null_at : (w : Validity) (i : ℕ) → is_no_nulls (validity_kind w) ≡ true → valid_at w i ≡ true
no_null_at v.NonNullable i h = refl
no_null_at v.AllValid i h = refl
no_null_at v.AllInvalid i h = absurd (cc)
no_null_at (v.Array bits) i h = absurd (cc)

unmasked_row : (b : Bool) (o : Option Cell) (x : Cell) → b ≡ true → o ≡ Some x → cond b o None ≡ Some x
unmasked_row true o x h e = e
unmasked_row false o x h e = absurd (cc)

-- each row of a constant without nulls is its value
pub value_row : (a : Array) (i : ℕ) (x : Cell) → is_no_nulls (validity_kind (own_validity a)) ≡ true → constant_cell a ≡ Some x → row a i ≡ Some x
value_row (constant s n) i x k e = e
value_row (masked (constant s n) w) i x k e = unmasked_row (valid_at w i) (option_map cell_of s.value) x (no_null_at w i k) e
value_row (extension t (constant s n)) i x k e = e
value_row _ i x k e = absurd (cc)

-- the cells of each row
pub record EachRow (arrays : List Array) : Type 0 where
  pub cells : List Cell
  pub each : (i : ℕ) → full_cells arrays i ≡ Some cells

-- the value of an array that is one value
pub record Value (o : Option Cell) : Type 0 where
  pub value : Cell
  pub is : o ≡ Some value

pub value_of : (o : Option Cell) → is_some o ≡ true → Value o
value_of (Some x) h = record { value = x; is = refl }
value_of None h = absurd (cc)

with_both : (o : Option Cell) (rest : Option (List Cell)) (x : Cell) (cells : List Cell) → o ≡ Some x → rest ≡ Some cells → with_cell o rest ≡ Some (x ∷ cells)
with_both (Some y) (Some others) x cells p q = cc (p, q)
with_both (Some y) None x cells p q = absurd (cc)
with_both None rest x cells p q = absurd (cc)

pub each_row : (arrays : List Array) → each_one_value arrays ≡ true → EachRow arrays
each_row [] h = record { cells = []; each = λ i. refl }
each_row (a ∷ arrays) h =
    let p = both_parts (is_one_value a) (each_one_value arrays) h in
    let q = both_parts (is_no_nulls (validity_kind (own_validity a))) (is_some (batch_value a)) p.0 in
    let known = value_of (batch_value a) q.1 in
    let later = each_row arrays p.1 in
    record {
      cells = known.value ∷ later.cells;
      each = λ i. with_both (row a i) (full_cells arrays i) known.value later.cells (value_row a i known.value q.0 (picked (nat_lt 0 (len a)) (constant_cell a) known.value known.is)) (later.each i);
    }

no_length : (o : Option Cell) (m n : ℕ) → is_some o ≡ true → is_length n (length_unless o m) ≡ true
no_length (Some c) m n h = refl
no_length None m n h = absurd (cc)

-- columns that are one value are decoded for any number of rows
pub one_decoded : (n : ℕ) (arrays : List Array) → each_one_value arrays ≡ true → each_length n (decoded_lengths arrays) ≡ true
one_decoded n [] h = refl
one_decoded n (a ∷ arrays) h =
    let p = both_parts (is_one_value a) (each_one_value arrays) h in
    let q = both_parts (is_no_nulls (validity_kind (own_validity a))) (is_some (batch_value a)) p.0 in
    both_are _ _ (no_length (batch_value a) (len a) n q.1) (one_decoded n arrays p.1)

pub each_of_one : (n : ℕ) (columns : List Array) → one_row n columns ≡ true → each_one_value columns ≡ true
each_of_one n columns h =
    let p = both_parts (nat_lt 0 n) (some_column columns && each_one_value columns) h in
    (both_parts (some_column columns) (each_one_value columns) p.1).1

pub some_rows : (n : ℕ) (columns : List Array) → one_row n columns ≡ true → 0 < n
some_rows n columns h = grind (arith, nat_tests, (both_parts (nat_lt 0 n) (some_column columns && each_one_value columns) h).0)

moved : {E : Type 0} (law : RowLaw E) (before after : List Cell) (r s : Option Cell) → before ≡ after → r ≡ s → Accepted law before r → Accepted law after s
moved law before after r s p q d = record { cell = d.cell; evidence = d.evidence; is = sym q ∙ d.is; outcome_is = ap law.meaning (sym p) ∙ d.outcome_is; accepted = d.accepted }

-- the cells of a row that are those of another
some_same : (o p : Option (List Cell)) (xs ys : List Cell) → o ≡ Some xs → p ≡ Some ys → o ≡ p → xs ≡ ys
some_same o p xs ys e f h = cc (e, f, h)

-- a column whose rows are all the first row of the values of one row
pub repeats : {E : Type 0} (law : RowLaw E) (columns : List Array) (n : ℕ) (one a : Array) → each_one_value columns ≡ true → ColumnOver law columns (all_rows 1) one → dtype a ≡ dtype one → len a ≡ n → ((i : ℕ) → row a i ≡ row one 0) → ValidColumn law columns n a
repeats law columns n one a h d t k rs =
    let same = each_row columns h in
    let first : 0 < 1 = omega arith in
    let cells_are : (i : ℕ) (cells : List Cell) → full_cells columns i ≡ Some cells → cells ≡ same.cells = λ i cells e. some_same (full_cells columns i) (full_cells columns 0) cells same.cells e (same.each 0) (same.each i ∙ sym (same.each 0)) in
    record {
      stored = d.stored ∙ ap Some (sym t);
      counted = k;
      each = λ i cells b e. moved law (shown_from law.arguments.shown 0 columns 0) cells (row one 0) (row a i) (d.full 0 same.cells (same.each 0) ∙ sym (cells_are i cells e)) (sym (rs i)) (d.each 0 first refl);
      read = λ i cells b e. d.read 0 cells first (same.each 0 ∙ ap Some (sym (cells_are i cells e)));
    }

-- a failure of the one row is one of all rows
pub rejected_repeats : {E : Type 0} {in_range : E → Type 0} {join : E → E → E} {neutral : E} {arity : ℕ} {infallible : Bool} (law : RowLaw E) (columns : List Array) (n : ℕ) → Lawful law arity infallible in_range join neutral → JoinLaws E in_range join neutral → EachHasRows n columns → one_row n columns ≡ true
    → (error : RowError) → RejectedOver law columns (all_rows 1) error → CallFails law columns n (Row error)
rejected_repeats {E} {in_range} law columns n lawful laws rows one error rejected =
    let same = each_row columns (each_of_one n columns one) in
    let Fails : E → Type 0 = λ v. EvidenceFails law.deferred law.finish v (Row error) in
    let each : (i : ℕ) → i < 1 → true ≡ is_some (full_cells columns i) = λ i h. ap is_some (sym (same.each i)) in
    inr (subst Fails (joined_first in_range law.join law.neutral law.meaning (full_cells columns) same.cells (joins_lawfully lawful laws) (lawful.evidence_in_range same.cells) same.each n (some_rows n columns one)) (rejected_rows law columns (all_rows 1) error each rejected))

-- the run of the one row, whose value is repeated
pub one_repeated : {E : Type 0} (law : RowLaw E) (columns : List Array) (n : ℕ) (one : Array) (given answer : Result (Option Array) Fault) (prepares steps : ℕ) → each_one_value columns ≡ true → ColumnOver law columns (all_rows 1) one → answer ≡ given → RepeatsRow one n given → prepares ≤ 1 → steps ≤ 1 → 1 ≤ steps → RunsSteps law columns n 1 1 answer prepares steps
one_repeated law columns n one (Ok (Some a)) answer prepares steps h over is repeated p m l = steps_some law columns n 1 1 answer a prepares steps is (repeats law columns n one a h over repeated.0 repeated.1 repeated.2) p m l
one_repeated law columns n one (Ok None) answer prepares steps h over is repeated p m l = absurd repeated
one_repeated law columns n one (Err e) answer prepares steps h over is repeated p m l = failed_run law columns n 1 1 answer e prepares steps is (inl (inl repeated)) p m
