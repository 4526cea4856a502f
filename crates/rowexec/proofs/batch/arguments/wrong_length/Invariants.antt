use Rattle.std.proofs.Common.{◌≡◌, drop}
use Rattle.rowexec.specs.Rows.{wrong_length}
use Rattle.rowexec.proofs.batch.arguments.wrong_length.Given as goal

abbrev pub invariant-loop-index : goal.invariant-loop-index
invariant-loop-index l = wrong_length l.row_count 0 l.columns ≡ wrong_length l.row_count l.index (drop l.index l.columns)
