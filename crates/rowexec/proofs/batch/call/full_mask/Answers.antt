use Rattle.std.proofs.Common.{length}
use Rattle.rowexec.proofs.MaskForm.{marks_full}
use Rattle.rowexec.proofs.StrictRows.{rows_from}
use Rattle.rowexec.proofs.batch.call.full_mask.Goals as goal

pub full_rows-requires : goal.full_rows-requires
full_rows-requires g c = rows_from c.row_count.result 0 c.columns.result.now (cc (c.columns.ensures, c.row_count.ensures, c.in_ok-check_arguments.ensures.rows))

pub returns : goal.returns
returns g c =
    let columns = c.args.args.now.columns in
    let n = c.args.args.now.row_count in
    let full = c.in_ok-full in
    let mask = c.execute_mask in
    marks_full (length g.F.RowSpec.ARG_NAMES) n c.row_count.result c.row_count-2.result columns c.columns.result.now full.full mask.result c.columns.ensures c.row_count.ensures c.row_count-2.ensures c.in_ok-check_arguments.ensures full.ensures.covers full.ensures.tells mask.ensures.mask mask.ensures.rows mask.ensures.tells
