use Rattle.std.proofs.Common.{ap}
use Rattle.coltypes.proofs.Scalars.{values-more}
use Rattle.coltypes.proofs.scalar.lists.shared_values.Goals as goal

pub loop-i-preserved : goal.loop-i-preserved
loop-i-preserved c =
    let more = values-more c.args.scalars.now c.loop-i.i c.index-scalars-i.result c.loop-i-test.true in
    let item = ap (λ s. s.value) c.index-scalars-i.is in
    cc (more, item, c.in_ok-push.ensures.items, c.share_value.ensures, c.loop-i.invariant)
