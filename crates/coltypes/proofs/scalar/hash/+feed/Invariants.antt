use Rattle.std.proofs.Common.{◌≡◌, fold}
use Rattle.coltypes.proofs.EqualCells.{fed_before}
use Rattle.coltypes.proofs.scalar.hash.+feed.Given as goal

abbrev pub invariant-feed_list-loop-i : goal.invariant-feed_list-loop-i
invariant-feed_list-loop-i g l = l.state ≡ fold g.H.Hasher.write l.initial.state (fed_before l.values l.i)
