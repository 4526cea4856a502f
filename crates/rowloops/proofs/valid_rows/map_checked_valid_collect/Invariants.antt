use Rattle.std.proofs.Common.{◌≡◌, ◌≤◌, count_by, get_or, length, take, vec_capacity, vec_len}
use Rattle.bitlane.specs.Bits.{bit}
use Rattle.bitlane.specs.Maps.{Joined, MapsTo}
use Rattle.rowloops.proofs.valid_rows.map_checked_valid_collect.Given as goal

abbrev pub invariant-loop-i : goal.invariant-loop-i
invariant-loop-i g l = record {
  long : length l.values.items ≡ l.i;
  room : (vec_len l.values ≡ l.i) × (l.rows ≤ vec_capacity l.values);
  counted : l.calls ≡ count_by (λ b. b) (take l.i l.valid);
  joined : Joined g.V.FailureEvidence.join g.V.FailureEvidence.neutral (bit l.valid) (λ k e. (d : _) → MapsTo (g.S.IndexedSource.item_at l.source k) (goal.F-post g l.apply) (get_or l.values.items k d, e)) l.i l.evidence;
}
