use Rattle.std.proofs.Common.{refl, rules}
use Rattle.coltypes.specs.LogicalTypeOf.{logical_type}
use Rattle.rowplan.proofs.Types.{same_is_true}
use Rattle.rowplan.proofs.batch_plan.labels.own_label.Goals as goal

pub returns-in_default-clause-over : goal.returns-in_default-clause-over
returns-in_default-clause-over c = same_is_true (logical_type c.args.storage.now) (logical_type c.args.storage.now) refl

pub returns-then-same-clause-over : goal.returns-then-same-clause-over
returns-then-same-clause-over c = same_is_true (logical_type c.args.storage.now) (logical_type c.args.storage.now) refl

pub returns-then-same-2-clause-over : goal.returns-then-same-2-clause-over
returns-then-same-2-clause-over c = same_is_true (logical_type c.share.result.storage) (logical_type c.args.storage.now) (search rules)
