use Rattle.std.specs.Prelude.{IsTrue}
use borrow.Author.Count.{below_more}
use Rattle.coltypes.specs.Fits.{in_range}
use Rattle.coltypes.specs.Values.{number_at}
use Rattle.rowelems.proofs.Numbers.{get-some}
use Rattle.rowelems.proofs.element.integer.checks.Goals as goal

pub loop-value-preserved : goal.loop-value-preserved
loop-value-preserved g c =
    let n = g.met.T.NativeInt.numbered c.args.values.now c.loop-value.value-index c.value-item.result (get-some c.args.values.now c.loop-value.value-index c.value-item.result c.loop-value-test.true c.value-item.is) in
    below_more (λ i. IsTrue (in_range g.T.NativeInt.ptype (number_at (g.T.NativeInt.stored c.args.values.now) i))) c.loop-value.value-index c.loop-value.invariant (rw n c.check.ensures)
