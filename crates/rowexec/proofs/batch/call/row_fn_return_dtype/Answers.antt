use Rattle.std.proofs.Common.{◌≡◌, ◌∙◌, Err, length, rules, subst, sym}
use Rattle.rowexec.specs.Batch.{Returns}
use Rattle.rowtypes.specs.Rows.{logical_types}
use Rattle.rowplan.proofs.Types.{as_many}
use Rattle.rowexec.proofs.Returning.{returns_arity, returns_fault, returns_type}
use Rattle.rowexec.proofs.batch.call.row_fn_return_dtype.Goals as goal

pub returns-then-actual-expected : goal.returns-then-actual-expected
returns-then-actual-expected g c =
    let types = logical_types c.args.types.now in
    let names = c.names_of_arguments-expected in
    returns_arity (g.F.RowSpec.law c.args.options.now types) types (length names.result.now) (length c.args.types.now)
    (names.ensures.as_many ∙ sym (g.met.F.RowSpec.lawful c.args.options.now types).arity_is) (sym (as_many c.args.types.now)) c.if-actual-expected.true

pub returns-in_err-plan : goal.returns-in_err-plan
returns-in_err-plan g c =
    let types = logical_types c.args.types.now in
    let names = c.names_of_arguments-expected in
    let law = g.F.RowSpec.law c.args.options.now types in
    let many : length types ≡ law.arity = as_many c.args.types.now ∙ c.if-actual-expected.false ∙ names.ensures.as_many ∙ sym (g.met.F.RowSpec.lawful c.args.options.now types).arity_is in
    let failed : c.from_residual.result ≡ Err c.in_err-plan.field-0.0 = search rules in
    subst (Returns law types) (sym failed) (returns_fault law types c.in_err-plan.field-0.0 many c.in_err-plan.ensures.errors)

pub returns : goal.returns
returns g c =
    let types = logical_types c.args.types.now in
    let names = c.names_of_arguments-expected in
    let law = g.F.RowSpec.law c.args.options.now types in
    let many : length types ≡ law.arity = as_many c.args.types.now ∙ c.if-actual-expected.false ∙ names.ensures.as_many ∙ sym (g.met.F.RowSpec.lawful c.args.options.now types).arity_is in
    returns_type law types c.in_ok-plan.plan c.result_dtype.result many c.in_ok-plan.ensures.planned c.in_ok-plan.ensures.plan c.result_dtype.ensures.stated c.result_dtype.ensures.errors

pub plan_batch-requires : goal.plan_batch-requires
plan_batch-requires g c =
    let types = logical_types c.args.types.now in
    c.if-actual-expected.false ∙ c.names_of_arguments-expected.ensures.as_many ∙ sym (g.met.F.RowSpec.lawful c.args.options.now types).arity_is
