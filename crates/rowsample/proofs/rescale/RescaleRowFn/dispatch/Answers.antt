use Rattle.std.proofs.Common.{refl}
use Rattle.rowplan.proofs.Types.{selects}
use Rattle.rowsample.proofs.rescale.RescaleRowFn.dispatch.Goals as goal

pub visit_prepared_deferred-requires-clause-arguments : goal.visit_prepared_deferred-requires-clause-arguments
visit_prepared_deferred-requires-clause-arguments g c = selects _ 2 c.args._types.now _ refl c.requires.types c.requires.arity
