use Rattle.std.proofs.Common.{length}
use Rattle.rowexec.proofs.batch.full_rows.+is_some_all_null.Given as goal

abbrev pub decreases-is_some_all_null : goal.decreases-is_some_all_null
decreases-is_some_all_null l = length l.columns.now
