use Rattle.std.proofs.Common.{◌≡◌, replicate}
use Rattle.coltypes.proofs.scalar.any.copies.Given as goal

abbrev pub invariant-loop : goal.invariant-loop
invariant-loop l = l.values.items ≡ replicate l.counter l.value
