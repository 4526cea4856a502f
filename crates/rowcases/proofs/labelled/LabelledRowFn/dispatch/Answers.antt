use Rattle.std.proofs.Common.{◌∙◌, refl}
use Rattle.rowplan.proofs.Types.{selects}
use Rattle.rowcases.proofs.labelled.LabelledRowFn.dispatch.Goals as goal

pub visit-requires-clause-arguments : goal.visit-requires-clause-arguments
visit-requires-clause-arguments g c = selects _ 1 c.args._types.now _ refl (c.with_output_dtype.ensures.types ∙ c.requires.types) c.requires.arity
