use Rattle.coltypes.specs.Masks.{mask_bits}
use Rattle.rowrun.specs.Generator.{marked_at}
use Rattle.rowrun.proofs.Tallied.{Tallied}
use Rattle.rowrun.proofs.generator.summary.add_up.Given as goal

abbrev pub invariant-loop-i : goal.invariant-loop-i
invariant-loop-i l = Tallied (marked_at l.numbers (mask_bits l.marks)) l.i l.tally.nulls l.tally.sum
