use Rattle.std.proofs.Common.{ℕ, List, inl, inr, arith, subst, sym}
use Rattle.colbase.specs.Arrays.{Array}
use Rattle.coltypes.specs.Keep.{trues}
use Rattle.rowexec.specs.Rows.{EachHasRows, types_of}
use Rattle.rowexec.specs.Selections.{FilteredFrom, MarksFullRows}
use Rattle.rowexec.proofs.Batches.{each_decoded}
use Rattle.rowexec.proofs.Deciding.{failed_run}
use Rattle.rowexec.proofs.Filtered.{filtered_run, full_kept, rows_kept, types_kept}
use Rattle.rowexec.proofs.batch.valid.execute_filtered.Goals as goal

pub filter_columns-requires : goal.filter_columns-requires
filter_columns-requires g c =
    let Rows : ℕ → Type 0 = λ k. EachHasRows k c.args.call.now.columns.now in
    subst Rows (sym c.requires.full.counted) c.requires.call.rows

pub execute_row_kernel-requires-clause-types : goal.execute_row_kernel-requires-clause-types
execute_row_kernel-requires-clause-types g c =
    let columns = c.args.call.now.columns.now in
    let From : List Array → Type 0 = λ xs. FilteredFrom c.args.valid.now columns xs in
    types_kept c.args.valid.now columns c.as_slice.result.now (subst From (sym c.as_slice.ensures.value) c.in-Ok.ensures.filtered)

pub execute_row_kernel-requires-clause-asked : goal.execute_row_kernel-requires-clause-asked
execute_row_kernel-requires-clause-asked g c =
    let columns = c.args.call.now.columns.now in
    let marks = c.args.valid.now in
    let Rows : ℕ → Type 0 = λ k. EachHasRows k columns in
    let From : List Array → Type 0 = λ xs. FilteredFrom marks columns xs in
    each_decoded (trues marks) c.as_slice.result.now (rows_kept marks columns c.as_slice.result.now (subst Rows (sym c.requires.full.counted) c.requires.call.rows) (subst From (sym c.as_slice.ensures.value) c.in-Ok.ensures.filtered))

pub execute_row_kernel-requires-clause-runs : goal.execute_row_kernel-requires-clause-runs
execute_row_kernel-requires-clause-runs g c =
    let columns = c.args.call.now.columns.now in
    let marks = c.args.valid.now in
    let Rows : ℕ → Type 0 = λ k. EachHasRows k columns in
    let Full : ℕ → Type 0 = λ k. MarksFullRows columns k marks in
    let From : List Array → Type 0 = λ xs. FilteredFrom marks columns xs in
    inr (λ i h s. full_kept marks columns c.as_slice.result.now (subst Rows (sym c.requires.full.counted) c.requires.call.rows) (subst Full (sym c.requires.full.counted) c.requires.full) (subst From (sym c.as_slice.ensures.value) c.in-Ok.ensures.filtered) i h)

pub returns-in-Err : goal.returns-in-Err
returns-in-Err g c =
    let call = c.args.call.now in
    let columns = call.columns.now in
    let n = call.row_count in
    let law = g.F.RowSpec.law call.options.now (types_of columns) in
    let s = c.before_the_rows in
    failed_run law columns n _ 1 s.result.answer c.in-Err.fault s.result.prepares s.result.steps s.ensures.answer (inl (inl c.in-Err.ensures.errors)) (omega (arith, s.ensures.prepares)) (omega (arith, s.ensures.steps))

pub returns : goal.returns
returns g c =
    let call = c.args.call.now in
    let columns = call.columns.now in
    let n = call.row_count in
    let law = g.F.RowSpec.law call.options.now (types_of columns) in
    let marks = c.args.valid.now in
    let From : List Array → Type 0 = λ xs. FilteredFrom marks columns xs in
    let told = c.execute_row_kernel in
    let given = c.decided in
    filtered_run law columns n c.as_slice.result.now marks told.result.answer given.result.answer told.result.prepares told.result.steps given.result.prepares given.result.steps given.ensures.answer given.ensures.prepares given.ensures.steps
    c.requires.call.rows c.requires.full (subst From (sym c.as_slice.ensures.value) c.in-Ok.ensures.filtered) told.ensures
