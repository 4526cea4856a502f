use Rattle.std.proofs.Common.{refl}
use Rattle.rowplan.proofs.Types.{selects}
use Rattle.rowcases.proofs.flags.FlagsRowFn.dispatch.Goals as goal

pub visit_deferred-requires-clause-arguments : goal.visit_deferred-requires-clause-arguments
visit_deferred-requires-clause-arguments g c = selects _ 1 c.args._types.now _ refl c.requires.types c.requires.arity
