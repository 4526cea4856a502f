use Rattle.std.proofs.Common.{rules}
use Rattle.rowrun.proofs.InRange.{no_others, scalar_in_range}
use Rattle.rowrun.proofs.generator.ranges.check_constant.Goals as goal

pub returns-in-Some : goal.returns-in-Some
returns-in-Some c = scalar_in_range c.args.array.now c.in-Some.scalar.now (search rules) c.requires.integer c.checks.ensures

pub returns-in-None : goal.returns-in-None
returns-in-None c = absurd (no_others c.args.array.now c.requires.unmasked c.requires.unvalued (search rules) c.requires.integer)
