use Rattle.std.proofs.Common.{◌∙◌}
use Rattle.coltypes.proofs.Scalars.{list_cell}
use Rattle.coltypes.proofs.scalar.lists.list_value.Goals as goal

pub returns-clause-made : goal.returns-clause-made
returns-clause-made c = list_cell c.args.scalars.now c.in_ok-new.field-0 (c.in_ok-new.ensures ∙ c.from_vec-items.ensures ∙ c.in_ok-shared_values.ensures)
