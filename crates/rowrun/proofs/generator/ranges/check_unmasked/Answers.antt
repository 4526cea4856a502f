use Rattle.std.proofs.Common.{rules}
use Rattle.rowrun.proofs.InRange.{values_in_range}
use Rattle.rowrun.proofs.generator.ranges.check_unmasked.Goals as goal

pub returns-in-Some : goal.returns-in-Some
returns-in-Some c = values_in_range c.args.array.now c.in-Some.values.now (search rules) c.requires.integer c.check_values.ensures
