use Rattle.std.proofs.Common.{ℕ, inr, sym, subst}
use Rattle.rowloops.specs.Domain.{marked_rows}
use Rattle.rowexec.specs.Rows.{EachHasRows, types_of}
use Rattle.rowexec.proofs.Batches.{each_decoded}
use Rattle.rowexec.proofs.Deciding.{direct_failed, direct_some}
use Rattle.rowexec.proofs.Domains.{marked_full, rejected_marked, unread_fails, valid_marked}
use Rattle.rowexec.proofs.batch.valid.execute_valid.Goals as goal
use Rattle.rowexec.proofs.batch.valid.execute_valid.Goals.{in-Ok-Some, in-Err}

pub execute_row_kernel-requires-clause-asked : goal.execute_row_kernel-requires-clause-asked
execute_row_kernel-requires-clause-asked g c =
    let Rows : ℕ → Type 0 = λ k. EachHasRows k c.args.call.now.columns.now in
    each_decoded _ c.args.call.now.columns.now (subst Rows (sym c.requires.full.counted) c.requires.call.rows)

pub execute_row_kernel-requires-clause-runs : goal.execute_row_kernel-requires-clause-runs
execute_row_kernel-requires-clause-runs g c = inr (marked_full c.args.call.now.columns.now c.args.call.now.row_count c.args.valid.now c.requires.call.rows c.requires.full)

pub returns : goal.returns
returns g c =
    let call = c.args.call.now in
    let columns = call.columns.now in
    let n = call.row_count in
    let law = g.F.RowSpec.law call.options.now (types_of columns) in
    let marks = c.args.valid.now in
    let told = c.execute_row_kernel in
    let first = c.decided-answer in
    let answer = c.match-answer.answer in
    elim c.match-answer.branch [
      | in-Ok-Some w ↦
          direct_some law columns n (marked_rows marks) told.result.answer first.result.answer w.in-Ok-Some.field-0 w.in-Ok-Some.values answer told.result.prepares told.result.steps first.result.prepares first.result.steps first.ensures.answer first.ensures.prepares first.ensures.steps w.in-Ok-Some.is w.in-Ok-Some.field-0-is w.answer-is
          (λ a h. valid_marked law columns n marks a c.requires.full h) (λ error h. rejected_marked law columns n marks error c.requires.full h) (unread_fails law columns n) told.ensures
      | in-Err w ↦
          direct_failed law columns n (marked_rows marks) told.result.answer first.result.answer w.in-Err.fault answer told.result.prepares told.result.steps first.result.prepares first.result.steps first.ensures.answer first.ensures.prepares first.ensures.steps w.in-Err.is w.answer-is
          (λ a h. valid_marked law columns n marks a c.requires.full h) (λ error h. rejected_marked law columns n marks error c.requires.full h) (unread_fails law columns n) told.ensures
    ]
