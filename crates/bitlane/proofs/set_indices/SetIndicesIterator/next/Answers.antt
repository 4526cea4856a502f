use Rattle.std.proofs.Common.{rules, ◌≡◌, ◌∙◌, ◌∷◌, ◌+◌, arith, false, sym}
use Rattle.std.specs.Prelude.{drop}
use Rattle.bitlane.specs.Bits.{true_indices_from}
use Rattle.bitlane.proofs.Indices.{none_after, true_at}
use Rattle.bitlane.proofs.set_indices.SetIndicesIterator.next.Goals as goal

pub returns-then-bits-at-clause-steps : goal.returns-then-bits-at-clause-steps
returns-then-bits-at-clause-steps c = sym c.loop-index.invariant.same ∙ true_at c.loop-index.index c.self.inside.bits.now false c.loop-index-test.true c.if-bits-at.true

pub returns-then-bits-at-clause-goes : goal.returns-then-bits-at-clause-goes
returns-then-bits-at-clause-goes c =
    let bits = c.self.inside.bits.now in
    let first : c.args.self.now ≡ c.loop-index.index ∷ true_indices_from (c.loop-index.index + 1) (drop (c.loop-index.index + 1) bits) =
    sym c.loop-index.invariant.same ∙ true_at c.loop-index.index bits false c.loop-index-test.true c.if-bits-at.true in
    search rules

pub returns-clause-steps : goal.returns-clause-steps
returns-clause-steps c = let left = none_after c.loop-index.index c.self.inside.bits.now (omega (arith, c.loop-index-test.false)) in (sym c.loop-index.invariant.same ∙ left, left)
