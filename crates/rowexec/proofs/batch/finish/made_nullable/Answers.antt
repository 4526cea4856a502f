use Rattle.rowexec.proofs.Masking.{cast_errors}
use Rattle.rowexec.proofs.Casting.{cast_len, cast_rows}
use Rattle.rowexec.proofs.batch.finish.made_nullable.Goals as goal

pub returns-then-nullable-clause-len : goal.returns-then-nullable-clause-len
returns-then-nullable-clause-len c = cast_len c.cast.result c.args.values c.cast.ensures

pub returns-then-nullable-clause-rows : goal.returns-then-nullable-clause-rows
returns-then-nullable-clause-rows c = cast_rows c.cast.result c.args.values c.cast.ensures

pub returns-then-nullable-clause-errors : goal.returns-then-nullable-clause-errors
returns-then-nullable-clause-errors c = cast_errors c.cast.result c.args.values c.cast.ensures
