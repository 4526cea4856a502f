use Rattle.std.proofs.Common.{rules}
use Rattle.rowrun.proofs.InRange.{below_mask, child_integer}
use Rattle.rowrun.proofs.generator.ranges.+check_array.Goals as goal

pub check_array-requires : goal.check_array-requires
check_array-requires t c = (search rules, child_integer c.args.array.now c.in-Some.child.now (search rules) c.requires)

pub returns-in-Some : goal.returns-in-Some
returns-in-Some t c = below_mask c.args.array.now c.in-Some.child.now (search rules) c.check_array.ensures
