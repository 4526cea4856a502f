use Rattle.std.proofs.Common.{refl}
use Rattle.rowplan.proofs.Types.{selects}
use Rattle.rowcases.proofs.sum_prepared.SumPreparedRowFn.dispatch.Goals as goal

pub visit_prepared-requires-clause-arguments : goal.visit_prepared-requires-clause-arguments
visit_prepared-requires-clause-arguments g c = selects _ 2 c.args._types.now _ refl c.requires.types c.requires.arity
