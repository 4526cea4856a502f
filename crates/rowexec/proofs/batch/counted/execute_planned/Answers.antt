use Rattle.std.proofs.Common.{◌∙◌, ap, sym}
use Rattle.rowplan.specs.Outputs.{any_nullable}
use Rattle.rowtypes.specs.Rows.{logical_types}
use Rattle.rowexec.specs.Rows.{types_of}
use Rattle.rowexec.proofs.Executing.{answered_err, answered_none, answered_some, executes_same, fault_executes, null_executes, unsettled_some, values_execute}
use Rattle.rowexec.proofs.PlannedCalls.{executes_of, planned_call, rows_of}
use Rattle.rowexec.proofs.batch.counted.execute_planned.Goals as goal
use Rattle.rowexec.proofs.batch.counted.execute_planned.Goals.{in-Err-answer, in-Ok-None, in-Ok-Some}

pub is_some_all_null-requires : goal.is_some_all_null-requires
is_some_all_null-requires g c = rows_of c.columns-columns.result.now c.args.args.now.columns c.row_count-row_count.result c.args.args.now.row_count c.columns-columns.ensures c.row_count-row_count.ensures c.requires.fits

pub null_answer-requires : goal.null_answer-requires
null_answer-requires g c = ap any_nullable (c.requires.types ∙ ap types_of (sym c.columns-columns.ensures)) ∙ c.is_some_all_null.ensures.nullable c.if-is_some_all_null.true

pub full_rows-requires : goal.full_rows-requires
full_rows-requires g c = rows_of c.columns-columns.result.now c.args.args.now.columns c.row_count-row_count.result c.args.args.now.row_count c.columns-columns.ensures c.row_count-row_count.ensures c.requires.fits

pub execute_selected-answer-requires : goal.execute_selected-answer-requires
execute_selected-answer-requires g c = record {
  call = planned_call (g.F.RowSpec.law c.args.options.now) (logical_types c.args.types.now) c.columns-columns.result.now c.args.args.now.columns c.row_count-row_count.result c.args.args.now.row_count c.args.plan.now c.in-Ok.full c.columns-columns.ensures c.row_count-row_count.ensures
      c.requires.types c.requires.fits c.requires.planned c.requires.plan (sym c.is_some_all_null.ensures.told ∙ c.if-is_some_all_null.false) (record { tells = c.in-Ok.ensures.tells; covers = c.in-Ok.ensures.covers; nullable = c.in-Ok.ensures.nullable });
}

pub finish_values-answer-requires-clause-call : goal.finish_values-answer-requires-clause-call
finish_values-answer-requires-clause-call g c =
    planned_call (g.F.RowSpec.law c.args.options.now) (logical_types c.args.types.now) c.columns-columns.result.now c.args.args.now.columns c.row_count-row_count.result c.args.args.now.row_count c.args.plan.now c.in-Ok.full c.columns-columns.ensures c.row_count-row_count.ensures
    c.requires.types c.requires.fits c.requires.planned c.requires.plan (sym c.is_some_all_null.ensures.told ∙ c.if-is_some_all_null.false) (record { tells = c.in-Ok.ensures.tells; covers = c.in-Ok.ensures.covers; nullable = c.in-Ok.ensures.nullable })

pub returns-clause-executes : goal.returns-clause-executes
returns-clause-executes g c =
    let options = c.args.options.now in
    let columns = c.columns-columns.result.now in
    let n = c.row_count-row_count.result in
    let law = g.F.RowSpec.law options (types_of columns) in
    let ran = c.execute_selected-answer.result.answer in
    let runs = c.execute_selected-answer.ensures.runs in
    let answer = c.match-answer.answer in
    let call = planned_call (g.F.RowSpec.law c.args.options.now) (logical_types c.args.types.now) c.columns-columns.result.now c.args.args.now.columns c.row_count-row_count.result c.args.args.now.row_count c.args.plan.now c.in-Ok.full c.columns-columns.ensures c.row_count-row_count.ensures
    c.requires.types c.requires.fits c.requires.planned c.requires.plan (sym c.is_some_all_null.ensures.told ∙ c.if-is_some_all_null.false) (record { tells = c.in-Ok.ensures.tells; covers = c.in-Ok.ensures.covers; nullable = c.in-Ok.ensures.nullable }) in
    executes_of (g.F.RowSpec.law options) columns c.args.args.now.columns n c.args.args.now.row_count answer c.columns-columns.ensures c.row_count-row_count.ensures
    (elim c.match-answer.branch [
      | in-Ok-Some w ↦
          let given = w.finish_values-answer in
          let values = answered_some law columns n ran w.in-Ok-Some.field-0 w.in-Ok-Some.values w.in-Ok-Some.is w.in-Ok-Some.field-0-is runs.answered in
          let unsettled = unsettled_some law columns n ran w.in-Ok-Some.field-0 w.in-Ok-Some.values w.in-Ok-Some.is w.in-Ok-Some.field-0-is c.execute_selected-answer.ensures.unsettled in
          executes_same law columns n given.result answer w.answer-is (values_execute law columns n w.in-Ok-Some.values given.result values unsettled given.ensures)
      | in-Ok-None w ↦
          let given = w.null_answer-answer in
          let none = answered_none law columns n ran w.in-Ok-None.field-0 w.in-Ok-None.is w.in-Ok-None.field-0-is runs.answered in
          executes_same law columns n given.result answer w.answer-is (null_executes law columns (logical_types c.args.types.now) n c.args.plan.now given.result call.plan_is call.types_are none.1 given.ensures.dtype given.ensures.len given.ensures.rows given.ensures.constant given.ensures.errors)
      | in-Err-answer w ↦ fault_executes law columns n answer w.in-Err-answer.fault w.answer-is (answered_err columns n ran w.in-Err-answer.fault (g.met.F.RowSpec.lawful options (types_of columns)) g.F.Evidence.FailureEvidence.laws w.in-Err-answer.is c.execute_selected-answer.ensures.unsettled runs.answered)
    ])
