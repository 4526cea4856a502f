use Rattle.std.proofs.Common.{length}
use Rattle.rowexec.proofs.batch.full_rows.+full_rows.Given as goal

abbrev pub decreases-full_rows : goal.decreases-full_rows
decreases-full_rows l = length l.columns.now
