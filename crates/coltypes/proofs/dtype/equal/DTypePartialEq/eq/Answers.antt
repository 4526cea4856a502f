use Rattle.std.proofs.lemmas.Bool.Decides.{same_from_decides}
use Rattle.coltypes.specs.Equal.{same_type}
use Rattle.coltypes.specs.EqualLaws.{type_decides}
use Rattle.coltypes.specs.LogicalTypeOf.{logical_type}
use Rattle.coltypes.proofs.dtype.equal.DTypePartialEq.eq.Goals as goal

pub returns : goal.returns
returns c = same_from_decides _ (same_type (logical_type c.args.self.now) (logical_type c.args.other.now)) c.same.ensures (type_decides _ _)
