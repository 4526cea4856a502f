use Rattle.rowtypes.proofs.Sides.{row_of_first, row_of_second}
use Rattle.rowtypes.proofs.both.BothElementTuple.get.Goals as goal

pub get-requires : goal.get-requires
get-requires g c = row_of_first (g.A.ElementTuple.lengths c.args.columns.now.0) (g.B.ElementTuple.lengths c.args.columns.now.1) c.args.index c.requires

pub get-requires-2 : goal.get-requires-2
get-requires-2 g c = row_of_second (g.A.ElementTuple.lengths c.args.columns.now.0) (g.B.ElementTuple.lengths c.args.columns.now.1) c.args.index c.requires
