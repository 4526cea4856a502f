use Rattle.rowrun.proofs.Turning.{Turned}
use Rattle.rowrun.proofs.generator.column.rows_of.Given as goal

abbrev pub invariant-loop : goal.invariant-loop
invariant-loop l = Turned l.pattern l.counter l.values.items l.marks.items l.number l.turn
