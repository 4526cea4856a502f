use Rattle.std.proofs.Common.{sym, ◌∙◌}
use Rattle.rowelems.proofs.Causes.{constant_fails}
use Rattle.rowelems.proofs.arg_column.ArgColumn.decode.Goals as goal

pub returns-in-Err-clause-errors : goal.returns-in-Err-clause-errors
returns-in-Err-clause-errors g c = constant_fails _ _ _ _ _ c.ranges.place.fits (sym c.has_batch_value.ensures ∙ c.if-has_batch_value.true) c.at_place.ensures c.in-Err.ensures.errors
