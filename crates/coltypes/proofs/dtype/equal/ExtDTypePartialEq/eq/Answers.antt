use Rattle.std.proofs.lemmas.Bool.Decides.{same_from_decides}
use Rattle.coltypes.specs.Equal.{same_type}
use Rattle.coltypes.specs.EqualLaws.{type_decides}
use Rattle.coltypes.specs.LogicalTypeOf.{extension_type}
use Rattle.coltypes.proofs.dtype.equal.ExtDTypePartialEq.eq.Goals as goal

pub returns : goal.returns
returns c = same_from_decides _ (same_type (extension_type c.args.self.now) (extension_type c.args.other.now)) c.same.ensures (type_decides _ _)
