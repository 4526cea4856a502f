use Rattle.rowsample.proofs.Powers.{known_bounds}
use Rattle.rowsample.proofs.rescale.rescaled.Goals as goal

pub scaled-requires : goal.scaled-requires
scaled-requires c = known_bounds c.args.power c.in-Some.power c.args.scale c.in-Some.is c.requires.same
