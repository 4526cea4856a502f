use Rattle.std.proofs.Common.{◌≡◌, ◌≤◌, get_or, length, true, vec_capacity, vec_len}
use Rattle.bitlane.specs.Maps.{Joined, MapsTo}
use Rattle.rowloops.proofs.checked.map_checked_collect.Given as goal

abbrev pub invariant-loop-i : goal.invariant-loop-i
invariant-loop-i g l = record {
  long : length l.values.items ≡ l.i;
  room : (vec_len l.values ≡ l.i) × (l.rows ≤ vec_capacity l.values);
  joined : Joined g.V.FailureEvidence.join g.V.FailureEvidence.neutral (λ _. true) (λ k e. (d : _) → MapsTo (g.S.IndexedSource.item_at l.source k) (goal.F-post g l.apply) (get_or l.values.items k d, e)) l.i l.evidence;
}
