use Rattle.std.proofs.Common.{arith, ap, inl}
use Rattle.rowexec.specs.Counts.{runs_valid_only}
use Rattle.rowexec.specs.Rows.{types_of}
use Rattle.rowexec.proofs.Batches.{each_decoded}
use Rattle.rowexec.proofs.Runs.{again_within, attempt_failed, attempt_rejected, attempt_there, attempt_values, retried_run}
use Rattle.rowexec.proofs.batch.retry.execute_dense_with_retry.Goals as goal
use Rattle.rowexec.proofs.batch.retry.execute_dense_with_retry.Goals.{in-Ok-Some-Values, in-Ok-None, in-Err}

pub execute_row_kernel-answer-requires-clause-asked : goal.execute_row_kernel-answer-requires-clause-asked
execute_row_kernel-answer-requires-clause-asked g c = each_decoded c.args.call.now.row_count c.args.call.now.columns.now c.requires.call.rows

pub execute_row_kernel-answer-requires-clause-runs : goal.execute_row_kernel-answer-requires-clause-runs
execute_row_kernel-answer-requires-clause-runs g c = inl (ap runs_valid_only c.requires.policy)

pub resolve_rejected-requires-clause-rejected : goal.resolve_rejected-requires-clause-rejected
resolve_rejected-requires-clause-rejected g c =
    let call = c.args.call.now in
    let columns = call.columns.now in
    let n = call.row_count in
    let law = g.F.RowSpec.law call.options.now (types_of columns) in
    let r = c.execute_row_kernel-answer.result in
    let arm = c.in-Ok-Some-Rejected in
    (attempt_rejected law columns n r.answer arm.field-0 arm.field-0-0 arm.error r.prepares r.steps arm.is arm.field-0-is arm.field-0-0-is c.execute_row_kernel-answer.ensures).0

pub after-requires-clause-prepares : goal.after-requires-clause-prepares
after-requires-clause-prepares g c = omega (arith, c.execute_row_kernel-answer.ensures.prepared, c.resolve_rejected.ensures.prepared)

pub after-requires-clause-steps : goal.after-requires-clause-steps
after-requires-clause-steps g c = omega (arith, c.execute_row_kernel-answer.ensures.most, c.resolve_rejected.ensures.most, again_within c.args.call.now.row_count c.args.call.now.columns.now)

pub returns-in-Ok-Some-Rejected : goal.returns-in-Ok-Some-Rejected
returns-in-Ok-Some-Rejected g c =
    let call = c.args.call.now in
    let columns = call.columns.now in
    let n = call.row_count in
    let law = g.F.RowSpec.law call.options.now (types_of columns) in
    let r = c.execute_row_kernel-answer.result in
    let ran = c.execute_row_kernel-answer.ensures in
    let arm = c.in-Ok-Some-Rejected in
    let again = c.resolve_rejected.result in
    let given = c.after in
    let rejected = attempt_rejected law columns n r.answer arm.field-0 arm.field-0-0 arm.error r.prepares r.steps arm.is arm.field-0-is arm.field-0-0-is ran in
    retried_run law columns n arm.error r.prepares r.steps again.answer given.result.answer again.prepares again.steps given.result.prepares given.result.steps
    c.requires.policy rejected.0 ran.prepared ran.most rejected.1 c.resolve_rejected.ensures given.ensures.answer given.ensures.prepares given.ensures.steps

pub returns : goal.returns
returns g c =
    let call = c.args.call.now in
    let columns = call.columns.now in
    let n = call.row_count in
    let law = g.F.RowSpec.law call.options.now (types_of columns) in
    let r = c.execute_row_kernel-answer.result in
    let ran = c.execute_row_kernel-answer.ensures in
    let answer = c.match-answer.answer in
    elim c.match-answer.branch [
      | in-Ok-Some-Values w ↦
          let arm = w.in-Ok-Some-Values in
          attempt_values law columns n r.answer arm.field-0 arm.field-0-0 arm.values answer r.prepares r.steps c.requires.policy arm.is arm.field-0-is arm.field-0-0-is w.answer-is ran
      | in-Ok-None w ↦ absurd (attempt_there law columns n r.answer w.in-Ok-None.field-0 r.prepares r.steps w.in-Ok-None.is w.in-Ok-None.field-0-is ran)
      | in-Err w ↦ attempt_failed law columns n r.answer w.in-Err.fault answer r.prepares r.steps c.requires.policy w.in-Err.is w.answer-is ran
    ]
