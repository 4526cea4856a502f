use Rattle.std.proofs.Common.{length}
use Rattle.rowexec.proofs.batch.one_row.+is_each_one_value.Given as goal

abbrev pub decreases-is_each_one_value : goal.decreases-is_each_one_value
decreases-is_each_one_value l = length l.columns.now
