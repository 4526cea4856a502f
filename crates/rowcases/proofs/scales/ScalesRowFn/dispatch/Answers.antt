use Rattle.std.proofs.Common.{refl}
use Rattle.rowplan.proofs.Types.{selects}
use Rattle.rowcases.proofs.scales.ScalesRowFn.dispatch.Goals as goal

pub visit-requires-clause-arguments : goal.visit-requires-clause-arguments
visit-requires-clause-arguments g c = selects _ 2 c.args._types.now _ refl c.requires.types c.requires.arity
