use Rattle.std.proofs.Common.{◌∙◌, ap}
use Rattle.rowtypes.specs.Rows.{logical_types}
use Rattle.coltypes.specs.LogicalType.{nullability_of}
use Rattle.rowplan.specs.Plans.{plan_of}
use Rattle.rowexec.proofs.StrictRows.{stated_nullable}
use Rattle.rowexec.proofs.batch.answer.null_answer.Goals as goal

pub null_column-requires : goal.null_column-requires
null_column-requires c = ap nullability_of c.in_ok-result_dtype.ensures.stated ∙ stated_nullable (plan_of c.args.plan.now).output (logical_types c.args.types.now) c.requires
