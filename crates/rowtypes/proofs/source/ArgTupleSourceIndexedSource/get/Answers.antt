use Rattle.rowtypes.proofs.Lengths.{has_row}
use Rattle.rowtypes.proofs.source.ArgTupleSourceIndexedSource.get.Goals as goal

pub get-requires : goal.get-requires
get-requires g c = has_row _ _ c.args.self.now.lengths _ c.requires
