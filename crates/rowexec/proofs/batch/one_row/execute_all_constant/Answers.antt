use Rattle.std.proofs.Common.{inl, inr, refl}
use Rattle.rowloops.specs.Domain.{all_rows}
use Rattle.rowexec.specs.RowRuns.{ColumnOver}
use Rattle.rowexec.specs.Rows.{types_of}
use Rattle.rowexec.specs.Visits.{CallFails}
use Rattle.rowexec.proofs.Deciding.{Decided, decided_err, decided_none, decided_run, decided_some, failed_run}
use Rattle.rowexec.proofs.Domains.{unread_fails}
use Rattle.rowexec.proofs.OneRow.{each_of_one, one_decoded, one_repeated, rejected_repeats}
use Rattle.rowexec.proofs.Selected.{one_full}
use Rattle.rowexec.proofs.batch.one_row.execute_all_constant.Goals as goal
use Rattle.rowexec.proofs.batch.one_row.execute_all_constant.Goals.{in-Ok-Some, in-Ok-None, in-Err}

pub execute_row_kernel-requires-clause-asked : goal.execute_row_kernel-requires-clause-asked
execute_row_kernel-requires-clause-asked g c = one_decoded 1 c.args.call.now.columns.now (each_of_one c.args.call.now.row_count c.args.call.now.columns.now c.requires.one)

pub execute_row_kernel-requires-clause-runs : goal.execute_row_kernel-requires-clause-runs
execute_row_kernel-requires-clause-runs g c = inr (λ i h s. one_full c.args.call.now.row_count c.args.call.now.columns.now c.requires.call.rows c.requires.one i h)

pub returns : goal.returns
returns g c =
    let call = c.args.call.now in
    let columns = call.columns.now in
    let n = call.row_count in
    let law = g.F.RowSpec.law call.options.now (types_of columns) in
    let told = c.execute_row_kernel in
    let first = c.decided-answer in
    let each = each_of_one n columns c.requires.one in
    let run : Decided (ColumnOver law columns (all_rows 1)) (CallFails law columns n) 1 first.result.answer first.result.prepares first.result.steps =
    decided_run law columns (all_rows 1) (ColumnOver law columns (all_rows 1)) (CallFails law columns n) told.result.answer first.result.answer told.result.prepares told.result.steps first.result.prepares first.result.steps
    first.ensures.answer first.ensures.prepares first.ensures.steps (inl refl) (λ a h. h) (rejected_repeats law columns n (g.met.F.RowSpec.lawful call.options.now (types_of columns)) g.F.Evidence.FailureEvidence.laws c.requires.call.rows c.requires.one) (unread_fails law columns n) told.ensures in
    elim c.match-answer.branch [
      | in-Ok-Some w ↦
          let given = decided_some first.result.answer w.in-Ok-Some.field-0 w.in-Ok-Some.row w.in-Ok-Some.is w.in-Ok-Some.field-0-is run in
          one_repeated law columns n w.in-Ok-Some.row w.repeated_row-answer.result c.match-answer.answer first.result.prepares first.result.steps each given.0 w.answer-is w.repeated_row-answer.ensures run.prepared run.most given.1
      | in-Ok-None w ↦ absurd (decided_none first.result.answer w.in-Ok-None.field-0 w.in-Ok-None.is w.in-Ok-None.field-0-is run)
      | in-Err w ↦ failed_run law columns n 1 1 c.match-answer.answer w.in-Err.fault first.result.prepares first.result.steps w.answer-is (decided_err first.result.answer w.in-Err.fault w.in-Err.is run) run.prepared run.most
    ]
