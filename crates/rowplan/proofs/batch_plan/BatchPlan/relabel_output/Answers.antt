use Rattle.std.proofs.Common.{◌≡◌, ◌∙◌, sym, ap, rules}
use Rattle.colbase.specs.Arrays.{dtype}
use Rattle.coltypes.specs.LogicalTypeOf.{logical_type}
use Rattle.rowplan.specs.Labels.{label_storage}
use Rattle.rowplan.proofs.Labelled.{errors_labelled, payload_labelled, rows_labelled, storage_with}
use Rattle.rowplan.proofs.Types.{true_is_same}
use Rattle.rowplan.proofs.batch_plan.BatchPlan.relabel_output.Goals as goal

pub returns-in_ok-label-in-Some-clause-rows : goal.returns-in_ok-label-in-Some-clause-rows
returns-in_ok-label-in-Some-clause-rows c = rows_labelled c.try_new.result _ c.args.values c.try_new.ensures

pub returns-in_ok-label-in-Some-clause-payload : goal.returns-in_ok-label-in-Some-clause-payload
returns-in_ok-label-in-Some-clause-payload c = payload_labelled c.try_new.result _ c.args.values c.try_new.ensures

pub returns-in_ok-label-in-Some-clause-errors : goal.returns-in_ok-label-in-Some-clause-errors
returns-in_ok-label-in-Some-clause-errors c =
    let plan = c.args.self.now in
    let over = true_is_same (label_storage plan.label (logical_type plan.storage)) (logical_type plan.storage) plan.over in
    let own : logical_type c.in-Some.label.storage ≡ logical_type plan.storage = ap (λ l. label_storage l (logical_type plan.storage)) (sym c.in-Some.is) ∙ over in
    let stored = storage_with c.in-Some.label c.in_ok-label-in-Some.label _ (c.in_ok-label-in-Some.ensures.changed) in
    let same : logical_type c.in_ok-label-in-Some.label.storage ≡ dtype c.args.values = search (rules, stored, own, c.requires) in
    errors_labelled c.try_new.result _ c.args.values same c.try_new.ensures
