use Rattle.std.proofs.Common.{◌∙◌}
use Rattle.rowexec.specs.Counts.{dense_accepted}
use Rattle.rowexec.specs.Rows.{full_cells, types_of}
use Rattle.rowexec.specs.declared.batch.selection.Selection.TheVariants as s
use Rattle.rowexec.proofs.Deciding.{none_run}
use Rattle.rowexec.proofs.Runs.{run_of_call, twice, unsettled_any, unsettled_none}
use Rattle.rowexec.proofs.Selected.{most_once, no_cells, no_steps, selected_by, steps_of_all, steps_of_marks, steps_of_one, steps_of_policy, unsettled_all, unsettled_attempt, unsettled_marks, unsettled_one}
use Rattle.rowexec.proofs.batch.counted.execute_selected.Goals as goal

pub returns-in-One-clause-runs : goal.returns-in-One-clause-runs
returns-in-One-clause-runs g c =
    let call = c.args.call.now in
    let columns = call.columns.now in
    let n = call.row_count in
    let law = g.F.RowSpec.law call.options.now (types_of columns) in
    let chosen = selected_by n columns (s.One) (c.policy.ensures ∙ c.requires.call.plan_is.rows) c.in-One.ensures in
    let r = c.execute_all_constant in
    run_of_call law columns n 1 1 r.result.answer r.result.prepares r.result.steps (steps_of_one law.policy (dense_accepted law columns n) n columns c.requires.call.some chosen) (most_once law.policy) r.ensures

pub returns-in-One-clause-unsettled : goal.returns-in-One-clause-unsettled
returns-in-One-clause-unsettled g c =
    let call = c.args.call.now in
    let columns = call.columns.now in
    let n = call.row_count in
    let law = g.F.RowSpec.law call.options.now (types_of columns) in
    let chosen = selected_by n columns (s.One) (c.policy.ensures ∙ c.requires.call.plan_is.rows) c.in-One.ensures in
    unsettled_any law columns n _ (unsettled_one law.policy n columns c.requires.call.some c.requires.call.rows chosen)

pub returns-in-All-clause-runs : goal.returns-in-All-clause-runs
returns-in-All-clause-runs g c =
    let call = c.args.call.now in
    let columns = call.columns.now in
    let n = call.row_count in
    let law = g.F.RowSpec.law call.options.now (types_of columns) in
    let chosen = selected_by n columns (s.All) (c.policy.ensures ∙ c.requires.call.plan_is.rows) c.in-All.ensures in
    let r = c.execute_dense in
    run_of_call law columns n n 1 r.result.answer r.result.prepares r.result.steps (steps_of_all law.policy (dense_accepted law columns n) n columns c.requires.call.some chosen.0 chosen.1) (most_once law.policy) r.ensures

pub returns-in-All-clause-unsettled : goal.returns-in-All-clause-unsettled
returns-in-All-clause-unsettled g c =
    let call = c.args.call.now in
    let columns = call.columns.now in
    let n = call.row_count in
    let law = g.F.RowSpec.law call.options.now (types_of columns) in
    let chosen = selected_by n columns (s.All) (c.policy.ensures ∙ c.requires.call.plan_is.rows) c.in-All.ensures in
    unsettled_any law columns n _ (unsettled_all law.policy n columns c.requires.call.some chosen.1)

pub returns-in-Attempt-clause-runs : goal.returns-in-Attempt-clause-runs
returns-in-Attempt-clause-runs g c =
    let call = c.args.call.now in
    let columns = call.columns.now in
    let n = call.row_count in
    let law = g.F.RowSpec.law call.options.now (types_of columns) in
    let chosen = selected_by n columns (s.Attempt) (c.policy.ensures ∙ c.requires.call.plan_is.rows) c.in-Attempt.ensures in
    let r = c.execute_dense_with_retry in
    run_of_call law columns n _ 2 r.result.answer r.result.prepares r.result.steps (steps_of_policy law.policy (dense_accepted law columns n) n columns c.requires.call.some chosen.0) (twice law.policy chosen.1) r.ensures

pub returns-in-Attempt-clause-unsettled : goal.returns-in-Attempt-clause-unsettled
returns-in-Attempt-clause-unsettled g c =
    let call = c.args.call.now in
    let columns = call.columns.now in
    let n = call.row_count in
    let law = g.F.RowSpec.law call.options.now (types_of columns) in
    let chosen = selected_by n columns (s.Attempt) (c.policy.ensures ∙ c.requires.call.plan_is.rows) c.in-Attempt.ensures in
    unsettled_any law columns n _ (unsettled_attempt law.policy n columns c.requires.call.some chosen.1)

pub returns-in-Valid-clause-runs : goal.returns-in-Valid-clause-runs
returns-in-Valid-clause-runs g c =
    let call = c.args.call.now in
    let columns = call.columns.now in
    let n = call.row_count in
    let law = g.F.RowSpec.law call.options.now (types_of columns) in
    let chosen = selected_by n columns (s.Valid c.in-Valid.bits) (c.policy.ensures ∙ c.requires.call.plan_is.rows) c.in-Valid.ensures in
    let r = c.execute_valid in
    run_of_call law columns n _ 1 r.result.answer r.result.prepares r.result.steps (steps_of_marks law.policy (dense_accepted law columns n) n columns c.in-Valid.bits c.requires.call.some chosen.0 chosen.1 chosen.2) (most_once law.policy) r.ensures

pub returns-in-Valid-clause-unsettled : goal.returns-in-Valid-clause-unsettled
returns-in-Valid-clause-unsettled g c =
    let call = c.args.call.now in
    let columns = call.columns.now in
    let n = call.row_count in
    let law = g.F.RowSpec.law call.options.now (types_of columns) in
    let chosen = selected_by n columns (s.Valid c.in-Valid.bits) (c.policy.ensures ∙ c.requires.call.plan_is.rows) c.in-Valid.ensures in
    unsettled_any law columns n _ (unsettled_marks law.policy n columns c.in-Valid.bits c.requires.call.some chosen.2 chosen.3)

pub returns-in-Nothing-clause-runs : goal.returns-in-Nothing-clause-runs
returns-in-Nothing-clause-runs g c =
    let call = c.args.call.now in
    let columns = call.columns.now in
    let n = call.row_count in
    let law = g.F.RowSpec.law call.options.now (types_of columns) in
    let before = c.before_the_rows in
    let chosen = selected_by n columns s.Nothing (c.policy.ensures ∙ c.requires.call.plan_is.rows) c.in-Nothing.ensures in
    none_run law columns n _ _ before.result.answer before.result.prepares before.result.steps before.ensures.answer (chosen.2, λ i h. no_cells (full_cells columns i) (chosen.3 i h)) before.ensures.prepares (no_steps law.policy (dense_accepted law columns n) n columns c.requires.call.some chosen.0 chosen.1 chosen.3) before.ensures.steps

pub returns-in-Nothing-clause-unsettled : goal.returns-in-Nothing-clause-unsettled
returns-in-Nothing-clause-unsettled g c =
    let call = c.args.call.now in
    unsettled_none (g.F.RowSpec.law call.options.now (types_of call.columns.now)) call.columns.now call.row_count _ c.before_the_rows.ensures.answer
