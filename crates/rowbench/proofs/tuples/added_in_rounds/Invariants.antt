use Rattle.std.proofs.Common.{◌≡◌, length}
use Rattle.rowbench.proofs.tuples.added_in_rounds.Given as goal

abbrev pub invariant-loop : goal.invariant-loop
invariant-loop l = length l.places.items.items ≡ l.rows
