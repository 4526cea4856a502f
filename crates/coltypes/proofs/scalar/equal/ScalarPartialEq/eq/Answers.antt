use Rattle.std.proofs.lemmas.Bool.Decides.{same_from_decides}
use Rattle.coltypes.specs.Equal.{same_scalar}
use Rattle.coltypes.specs.EqualLaws.{scalar_decides}
use Rattle.coltypes.proofs.scalar.equal.ScalarPartialEq.eq.Goals as goal

pub returns : goal.returns
returns c = same_from_decides _ (same_scalar c.args.self.now c.args.other.now) c.same.ensures (scalar_decides c.args.self.now c.args.other.now)
