use Rattle.std.proofs.Common.{◌≡◌, ◌<◌, true, false, subst, sym}
use Rattle.rowexec.specs.Counts.{one_row}
use Rattle.rowexec.specs.Rows.{types_of}
use Rattle.rowexec.proofs.Finishing.{labelled_finishes, repeated_finishes}
use Rattle.rowexec.proofs.OneRow.{some_rows}
use Rattle.rowexec.proofs.batch.answer.finish_values.Goals as goal

pub repeated-requires : goal.repeated-requires
repeated-requires g c =
    let n = c.args.call.now.row_count in
    let columns = c.args.call.now.columns.now in
    let one : one_row n columns ≡ true = cc (c.is_one_row.ensures, c.if-is_one_row.true) in
    subst (λ k. 0 < k) (sym c.in_ok-labelled.ensures.len) (some_rows n columns one)

pub returns-then-is_one_row : goal.returns-then-is_one_row
returns-then-is_one_row g c =
    let call = c.args.call.now in
    let columns = call.columns.now in
    let n = call.row_count in
    let law = g.F.RowSpec.law call.options.now (types_of columns) in
    let one : one_row n columns ≡ true = cc (c.is_one_row.ensures, c.if-is_one_row.true) in
    let given = c.repeated in
    repeated_finishes law columns n c.in_ok-labelled.labelled given.result one c.in_ok-labelled.ensures.dtype c.in_ok-labelled.ensures.rows given.ensures.dtype given.ensures.len given.ensures.rows given.ensures.constant given.ensures.errors

pub returns : goal.returns
returns g c =
    let call = c.args.call.now in
    let columns = call.columns.now in
    let n = call.row_count in
    let law = g.F.RowSpec.law call.options.now (types_of columns) in
    let one : one_row n columns ≡ false = cc (c.is_one_row.ensures, c.if-is_one_row.false) in
    labelled_finishes law columns n c.in_ok-labelled.labelled one c.in_ok-labelled.ensures.dtype c.in_ok-labelled.ensures.len c.in_ok-labelled.ensures.rows
