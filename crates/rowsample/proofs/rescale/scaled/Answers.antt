use Rattle.std.proofs.Common.{rules, w64, FitsSigned}
use Rattle.rowsample.proofs.Powers.{bounded_product}
use Rattle.rowsample.proofs.rescale.scaled.Goals as goal

pub returns : goal.returns
returns c =
    let factor : FitsSigned w64 c.args.power.factor = search rules in
    let least : FitsSigned w64 c.args.power.least = search rules in
    let most : FitsSigned w64 c.args.power.most = search rules in
    bounded_product c.args.value c.args.power.factor c.args.power.least c.args.power.most c.ranges.value factor least most (c.requires.is_i64 c.args.value)
