use Rattle.std.proofs.Common.{inl, refl}
use Rattle.rowexec.specs.Rows.{types_of}
use Rattle.rowexec.specs.Visits.{CallFails, ValidColumn}
use Rattle.rowloops.specs.Domain.{all_rows}
use Rattle.rowexec.proofs.Batches.{each_decoded}
use Rattle.rowexec.proofs.Deciding.{decided_run, decided_steps}
use Rattle.rowexec.proofs.Domains.{may_run, rejected_all, unread_fails, valid_all}
use Rattle.rowexec.proofs.batch.run.execute_dense.Goals as goal

pub execute_row_kernel-requires-clause-asked : goal.execute_row_kernel-requires-clause-asked
execute_row_kernel-requires-clause-asked g c = each_decoded c.args.call.now.row_count c.args.call.now.columns.now c.requires.call.rows

pub execute_row_kernel-requires-clause-runs : goal.execute_row_kernel-requires-clause-runs
execute_row_kernel-requires-clause-runs g c = may_run _ c.args.call.now.row_count c.args.call.now.columns.now c.requires.runs

pub returns : goal.returns
returns g c =
    let call = c.args.call.now in
    let columns = call.columns.now in
    let n = call.row_count in
    let law = g.F.RowSpec.law call.options.now (types_of columns) in
    let ran = c.execute_row_kernel in
    let given = c.decided in
    decided_steps law columns n n n given.result.answer given.result.prepares given.result.steps refl
    (decided_run law columns (all_rows n) (ValidColumn law columns n) (CallFails law columns n) ran.result.answer given.result.answer ran.result.prepares ran.result.steps given.result.prepares given.result.steps
    given.ensures.answer given.ensures.prepares given.ensures.steps (inl refl) (valid_all law columns n) (λ error h. rejected_all law columns n error c.requires.runs h) (unread_fails law columns n) ran.ensures)
