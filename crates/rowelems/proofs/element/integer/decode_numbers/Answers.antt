use Rattle.std.proofs.Common.{◌<◌, sym, subst}
use Rattle.rowelems.proofs.Numbers.{numbers-dense, numbers-read}
use Rattle.rowelems.proofs.element.integer.decode_numbers.Goals as goal

pub returns-clause-read : goal.returns-clause-read
returns-clause-read g c =
    numbers-read g.T.NativeInt.ptype c.args.array.now
    (numbers-dense g.T.NativeInt.ptype c.args.array.now (g.T.NativeInt.stored c.in_ok-values.values) (λ i h. (rw c.as_slice.ensures at c.checks.ensures) i (subst (λ n. i < n) (sym c.in_ok-values.ensures.len) h)) c.in_ok-values.ensures.same)
