use Rattle.std.proofs.Common.{◌≡◌, map, take}
use Rattle.coltypes.proofs.scalar.lists.shared_values.Given as goal

abbrev pub invariant-loop-i : goal.invariant-loop-i
invariant-loop-i l = l.values.items ≡ map (λ s. s.value) (take l.i l.scalars)
