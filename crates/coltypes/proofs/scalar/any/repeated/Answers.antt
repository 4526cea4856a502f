use Rattle.std.proofs.Common.{◌∙◌}
use Rattle.coltypes.proofs.Scalars.{repeated_cell}
use Rattle.coltypes.proofs.scalar.any.repeated.Goals as goal

pub returns-clause-made : goal.returns-clause-made
returns-clause-made c = repeated_cell c.in_ok-new.field-0 c.args.count c.args.value.now (c.in_ok-new.ensures ∙ c.from_vec-items.ensures ∙ c.in_ok-copies.ensures)
