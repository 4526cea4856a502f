use Rattle.std.proofs.Common.{ℕ, ◌<◌, get_or}
use Rattle.bitlane.specs.Maps.{MapsTo}
use Rattle.bitlane.proofs.map.map_into.Given as goal

abbrev pub invariant-loop-i : goal.invariant-loop-i
invariant-loop-i g l = (k : ℕ) (d : _) → k < l.i → MapsTo (g.S.IndexedSource.item_at l.source k) (goal.F-post g l.apply) (get_or l.out k d)
