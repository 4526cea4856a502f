use Rattle.std.proofs.Common.{negsuc, pos, arith}
use Rattle.rowsample.proofs.Powers.{divides}
use Rattle.rowsample.proofs.rescale.bounded_power.Goals as goal

pub nonzero_div-result : goal.nonzero_div-result
nonzero_div-result c = divides (negsuc 9223372036854775807) c.power_of_ten-factor.result c.args.scale (record { sfits = omega arith }) c.power_of_ten-factor.ensures c.requires

pub nonzero_div-result-2 : goal.nonzero_div-result-2
nonzero_div-result-2 c = divides (pos 9223372036854775807) c.power_of_ten-factor.result c.args.scale (record { sfits = omega arith }) c.power_of_ten-factor.ensures c.requires
