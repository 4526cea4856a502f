use Rattle.std.proofs.Common.{refl}
use Rattle.rowplan.proofs.Types.{selects}
use Rattle.rowcases.proofs.ordered.OrderedRowFn.dispatch.Goals as goal

pub visit_bool-requires-clause-arguments : goal.visit_bool-requires-clause-arguments
visit_bool-requires-clause-arguments g c = selects _ 2 c.args._types.now _ refl c.requires.types c.requires.arity
