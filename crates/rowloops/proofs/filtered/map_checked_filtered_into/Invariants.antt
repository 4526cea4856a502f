use Rattle.std.proofs.Common.{get_or, true}
use Rattle.bitlane.specs.Maps.{Joined, MapsTo}
use Rattle.coltypes.specs.Keep.{place}
use Rattle.rowloops.proofs.SetPlaces.{PlacesFrom}
use Rattle.rowloops.proofs.filtered.map_checked_filtered_into.Given as goal

abbrev pub invariant-loop-index : goal.invariant-loop-index
invariant-loop-index g l = record {
  goes : (goal.iterator-loop-index g).can_next l.index-iterator;
  ends : (goal.iterator-loop-index g).is_finite l.index-iterator;
  left : PlacesFrom l.valid l.item l.index-iterator;
  joined : Joined g.V.FailureEvidence.join g.V.FailureEvidence.neutral (λ _. true) (λ k e. (d : _) → MapsTo (g.S.IndexedSource.item_at l.source k) (goal.F-post g l.apply) (get_or l.out (place l.valid k) d, e)) l.item l.evidence;
}
