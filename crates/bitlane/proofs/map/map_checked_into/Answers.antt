use Rattle.std.proofs.Common.{arith, ◌<◌, length}
use Rattle.bitlane.proofs.Joins.{Joined-none, Joined-at, checked_step}
use Rattle.bitlane.proofs.map.map_checked_into.Goals as goal

pub loop-i-init : goal.loop-i-init
loop-i-init g c = Joined-none _ _ _ _ _ (g.met.E.FailureEvidence.default_is_neutral _ c.default-evidence.ensures)

pub loop-i-preserved : goal.loop-i-preserved
loop-i-preserved g c =
    let lt : c.loop-i.i < length c.loop-i.out = omega (arith, c.len-i-end.ensures) in
    checked_step _ _ _ _ c.loop-i.out c.loop-i.i c.loop-i.evidence lt c.loop-i.invariant c.get.result c.get.ensures c.apply-value.result c.apply-value.ensures _ (g.met.E.FailureEvidence.or_joins _ _ _ c.bitor_assign.ensures.after)

pub returns : goal.returns
returns g c = Joined-at _ _ _ _ _ _ _ (omega (arith, c.len-i-end.ensures)) c.loop-i.invariant
