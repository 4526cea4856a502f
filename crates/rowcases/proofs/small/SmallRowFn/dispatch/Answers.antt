use Rattle.std.proofs.Common.{refl}
use Rattle.rowplan.proofs.Types.{selects}
use Rattle.rowcases.proofs.small.SmallRowFn.dispatch.Goals as goal

pub visit_deferred-requires-clause-arguments : goal.visit_deferred-requires-clause-arguments
visit_deferred-requires-clause-arguments g c = selects _ 1 c.args._types.now _ refl c.requires.types c.requires.arity

pub visit_prepared_deferred-requires-clause-arguments : goal.visit_prepared_deferred-requires-clause-arguments
visit_prepared_deferred-requires-clause-arguments g c = selects _ 1 c.args._types.now _ refl c.requires.types c.requires.arity

pub visit_deferred_bool-requires-clause-arguments : goal.visit_deferred_bool-requires-clause-arguments
visit_deferred_bool-requires-clause-arguments g c = selects _ 1 c.args._types.now _ refl c.requires.types c.requires.arity

pub visit_prepared_deferred_bool-requires-clause-arguments : goal.visit_prepared_deferred_bool-requires-clause-arguments
visit_prepared_deferred_bool-requires-clause-arguments g c = selects _ 1 c.args._types.now _ refl c.requires.types c.requires.arity
