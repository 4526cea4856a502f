-- The sums of the generated columns, as an engine answers them.
use Rattle.std.proofs.Common.{◌≡◌, ◌∙◌, ℕ, ℤ, pos, ◌<◌, Bool, true, false, not, List, Option, Some, None, Result, Ok, Err, refl, ap, sym, subst, arith, get_or, option_map, w64}
use Rattle.std.specs.Prelude.{is_some, unwrap_or, if◌then◌else◌, IfOk, IfErr, IfSome}
use Rattle.std.specs.Int.{int_wrap}
use Rattle.std.proofs.lemmas.Int.{int_wrap_fits}
use Rattle.bitlane.specs.Bits.{bit}
use Rattle.bitlane.proofs.Tables.{length-tabulate, get_or-tabulate}
use Rattle.colbase.specs.Arrays.{Array, column, dtype, len, row}
use Rattle.coltypes.specs.Cell.{Cell, number}
use Rattle.coltypes.specs.Fits.{in_range}
use Rattle.coltypes.specs.LogicalType.{LogicalType, primitive, null}
use Rattle.coltypes.specs.declared.dtype.PType.TheVariants.{I64}
use Rattle.coltypes.specs.declared.dtype.Nullability.TheVariants.{NonNullable}
use Rattle.coltypes.specs.declared.fault.Fault.{Fault}
use Rattle.coltypes.specs.declared.fault.Fault.TheVariants.{Memory}
use Rattle.rowelems.specs.Reading.{is_integer}
use Rattle.rowplan.specs.Outputs.{output_type, stated_type}
use Rattle.rowplan.specs.Outcomes.{done}
use Rattle.rowexec.specs.Rows.{Accepted, StrictRow, full_cells, types_of}
use Rattle.rowplan.specs.Constructors.{code_where}
use Rattle.rowsample.specs.Functions.{checked_adds, exact_sum, is_outside}
use Rattle.rowrun.specs.Generator.{IsSmall, generated, marked_at, nulls_of, sum_at, summary, summary_text, total_of}
use Rattle.rowrun.specs.Results.{CauseOf, IsResultOf}
use Rattle.rowjson.specs.Shows.{Shows}
use Rattle.rowrun.specs.declared.batch.Call.TheVariants.{CheckedAdd}
use Rattle.rowrun.proofs.GeneratedRows.{memory_alone, small_sums, types_are}
use Rattle.rowjson.proofs.Ranges.{fits_decides}
use Rattle.rowrun.proofs.Tallied.{nulls_same, total_same}

-- ---- strict rows

evidence_of_done : (c d : Cell) (a b : Bool) → done c a ≡ done d b → a ≡ b
evidence_of_done c d a b e = cc

cell_of_done : (c d : Cell) (a b : Bool) → done c a ≡ done d b → c ≡ d
cell_of_done c d a b e = cc

accepted_inside : (b : Bool) → code_where 1 (not b) ≡ None → b ≡ true
accepted_inside true h = refl
accepted_inside false h = cc

-- an accepted outcome is the exact number
exact_cell : (cells : List Cell) (r : Option Cell) → Accepted checked_adds cells r → r ≡ Some (number (exact_sum cells))
exact_cell cells r accepted =
    let z = exact_sum cells in
    let evidence = evidence_of_done (number (int_wrap w64 z)) accepted.cell (is_outside z) accepted.evidence accepted.outcome_is in
    let cell = cell_of_done (number (int_wrap w64 z)) accepted.cell (is_outside z) accepted.evidence accepted.outcome_is in
    let inside : in_range I64 z ≡ true = accepted_inside (in_range I64 z) (ap (code_where 1) evidence ∙ accepted.accepted) in
    let same : int_wrap w64 z ≡ z = int_wrap_fits w64 z ((fits_decides w64 z).0 inside) in
    accepted.is ∙ ap Some (sym cell) ∙ ap (λ (y : ℤ). Some (number y)) same

strict_sum : (cells : Option (List Cell)) (r : Option Cell) → StrictRow checked_adds cells r → r ≡ option_map number (option_map exact_sum cells)
strict_sum None r strict = strict
strict_sum (Some cells) r strict = exact_cell cells r strict

-- the rows of a result are the sums
pub result_rows : (n : ℕ) (a : Array) → IsResultOf CheckedAdd n (generated n) (column a) → len a ≡ n → (i : ℕ) → i < n → row a i ≡ option_map number (sum_at n i)
result_rows n a is counted i within =
    sym (get_or-tabulate (row a) (len a) i None (omega (arith, within, counted))) ∙ strict_sum (full_cells (generated n) i) _ (is.each i within)

pub result_len : (n : ℕ) (a : Array) → IsResultOf CheckedAdd n (generated n) (column a) → len a ≡ n
result_len n a is = sym (length-tabulate (row a) (len a)) ∙ is.counted

same_storage : (s : LogicalType) → Some (primitive I64 NonNullable) ≡ Some s → s ≡ primitive I64 NonNullable
same_storage s e = sym (ap (λ (o : Option LogicalType). unwrap_or o null) e)

pub result_numbers : (n : ℕ) (a : Array) → IsResultOf CheckedAdd n (generated n) (column a) → is_integer I64 (dtype a) ≡ true
result_numbers n a is =
    ap (is_integer I64) is.stated.is
    ∙ ap (λ (s : LogicalType). is_integer I64 (stated_type (output_type s None) (types_of (generated n)))) (same_storage is.stated.storage is.stated.stored)
    ∙ ap (λ (types : List LogicalType). is_integer I64 (stated_type (primitive I64 NonNullable) types)) (types_are n)

-- ---- what an engine says of the column or the fault of columns that are the generated ones

-- the result is one of the generated columns
abbrev pub SumsOf : ℕ → Result Array Fault → Type 0
SumsOf n r = IfOk r (λ a. IsResultOf CheckedAdd n (generated n) (column a))

pub of_generated : (n k : ℕ) (columns : List Array) (r : Result Array Fault) → columns ≡ generated n → k ≡ n → IfOk r (λ a. IsResultOf CheckedAdd k columns (column a)) → SumsOf n r
of_generated n k columns r are counted is =
    subst (λ (cs : List Array). IfOk r (λ a. IsResultOf CheckedAdd n cs (column a))) are (subst (λ (m : ℕ). IfOk r (λ a. IsResultOf CheckedAdd m columns (column a))) counted is)

pub sums_len : (n : ℕ) (r : Result Array Fault) → SumsOf n r → IfOk r (λ a. len a ≡ n)
sums_len n (Ok a) is = result_len n a is
sums_len n (Err e) is = tt

pub sums_numbers : (n : ℕ) (r : Result Array Fault) → SumsOf n r → IfOk r (λ a. is_integer I64 (dtype a) ≡ true)
sums_numbers n (Ok a) is = result_numbers n a is
sums_numbers n (Err e) is = tt

pub sums_rows : (n : ℕ) (r : Result Array Fault) → SumsOf n r → IfOk r (λ a. (i : ℕ) → i < n → row a i ≡ option_map number (sum_at n i))
sums_rows n (Ok a) is = result_rows n a is (result_len n a is)
sums_rows n (Err e) is = tt

only_memory : (n : ℕ) (r : Result Array Fault) → IfErr r (CauseOf CheckedAdd n (generated n)) → IfErr r (λ e. e ≡ Memory)
only_memory n (Ok a) cause = tt
only_memory n (Err e) cause = memory_alone n e cause

pub sums_fault : (n k : ℕ) (columns : List Array) (r : Result Array Fault) → columns ≡ generated n → k ≡ n → IfErr r (CauseOf CheckedAdd k columns) → IfErr r (λ e. e ≡ Memory)
sums_fault n k columns r are counted cause =
    only_memory n r (subst (λ (cs : List Array). IfErr r (CauseOf CheckedAdd n cs)) are (subst (λ (m : ℕ). IfErr r (CauseOf CheckedAdd m columns)) counted cause))

-- ---- decoded rows

marked_sum : (numbers : List ℤ) (marks : List Bool) (i : ℕ) (cell : Option Cell) (sum : Option ℤ) → cell ≡ option_map number sum → bit marks i ≡ is_some cell → ((c : Cell) → cell ≡ Some c → number (get_or numbers i (pos 0)) ≡ c) → marked_at numbers marks i ≡ sum
marked_sum numbers marks i cell None is mark shows =
    ap (λ (b : Bool). if b then Some (get_or numbers i (pos 0)) else None) (mark ∙ ap is_some is)
marked_sum numbers marks i cell (Some z) is mark shows =
    let same : number (get_or numbers i (pos 0)) ≡ number z = shows (number z) is in
    let value : get_or numbers i (pos 0) ≡ z = cc in
    ap (λ (b : Bool). if b then Some (get_or numbers i (pos 0)) else None) (mark ∙ ap is_some is) ∙ ap Some value

pub marked_sums : (n : ℕ) (a : Array) (numbers : List ℤ) (marks : List Bool) → len a ≡ n → Shows a numbers → ((i : ℕ) → i < n → row a i ≡ option_map number (sum_at n i)) → ((i : ℕ) → i < len a → bit marks i ≡ is_some (row a i)) → (i : ℕ) → i < n → marked_at numbers marks i ≡ sum_at n i
marked_sums n a numbers marks counted shows rows tells i within =
    let inside : i < len a = omega (arith, within, counted) in
    marked_sum numbers marks i (row a i) (sum_at n i) (rows i within) (tells i inside) (λ c is. shows.each i c inside is)

pub small_marked : (n : ℕ) (numbers : List ℤ) (marks : List Bool) → ((i : ℕ) → i < n → marked_at numbers marks i ≡ sum_at n i) → (i : ℕ) → i < n → IfSome (marked_at numbers marks i) IsSmall
small_marked n numbers marks same i within = subst (λ (o : Option ℤ). IfSome o IsSmall) (sym (same i within)) (small_sums n i within)

-- the text of what was counted and added up is the summary
pub summary_is : (n k nulls : ℕ) (sum : ℤ) (rows : ℕ → Option ℤ) → k ≡ n → ((i : ℕ) → i < n → rows i ≡ sum_at n i) → nulls ≡ nulls_of rows k → sum ≡ total_of rows k → summary_text n nulls sum ≡ summary n
unfolding summary
summary_is n k nulls sum rows counted same nulls_are sum_is =
    let nulls_so : nulls ≡ nulls_of (sum_at n) n = nulls_are ∙ ap (nulls_of rows) counted ∙ nulls_same rows (sum_at n) n same in
    let sum_so : sum ≡ total_of (sum_at n) n = sum_is ∙ ap (total_of rows) counted ∙ total_same rows (sum_at n) n same in
    ap (λ (k : ℕ). summary_text n k sum) nulls_so ∙ ap (λ (z : ℤ). summary_text n (nulls_of (sum_at n) n) z) sum_so
