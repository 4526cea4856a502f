use Rattle.std.proofs.Common.{◌∙◌, length, ap, sym}
use Rattle.rowtypes.specs.Rows.{logical_types}
use Rattle.rowexec.specs.Rows.{types_of}
use Rattle.rowexec.proofs.Batches.{as_many_types}
use Rattle.rowplan.proofs.Types.{as_many}
use Rattle.rowexec.proofs.batch.plan.plan_call.Goals as goal

pub plan_batch-requires : goal.plan_batch-requires
plan_batch-requires g c =
    let own = ap logical_types c.as_slice.ensures ∙ c.in_ok-types.ensures in
    let same = own ∙ ap types_of c.columns.ensures in
    sym (as_many c.as_slice.result.now) ∙ ap length same ∙ as_many_types c.args.args.now.columns ∙ c.in_ok-check_call.ensures.as_many ∙ ap (λ t. (g.F.RowSpec.law c.args.options.now t).arity) (sym same)
