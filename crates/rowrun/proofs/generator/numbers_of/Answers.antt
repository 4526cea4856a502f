use Rattle.rowrun.proofs.InRange.{decoded_or_memory}
use Rattle.rowrun.proofs.generator.numbers_of.Goals as goal

pub returns-clause-errors : goal.returns-clause-errors
returns-clause-errors c = decoded_or_memory c.args.array.now c.decode.result c.check_array.ensures c.decode.ensures.errors
