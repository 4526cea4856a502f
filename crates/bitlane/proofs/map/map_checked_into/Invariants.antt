use Rattle.std.proofs.Common.{get_or, true}
use Rattle.bitlane.specs.Maps.{MapsTo, Joined}
use Rattle.bitlane.proofs.map.map_checked_into.Given as goal

abbrev pub invariant-loop-i : goal.invariant-loop-i
invariant-loop-i g l =
    Joined g.E.FailureEvidence.join g.E.FailureEvidence.neutral (λ _. true)
    (λ k e. (d : _) → MapsTo (g.S.IndexedSource.item_at l.source k) (goal.F-post g l.apply) (get_or l.out k d, e)) l.i l.evidence
