-- What a batch of the code states. It stands apart from the batch itself, whose file the code imports.
use Rattle.rowrun.specs.Batch.{Batch}
use Rattle.rowrun.specs.declared.batch.Batch as code

abbrev pub batch_view : code.Batch → Batch
batch_view b = record { call = b.call; row_count = b.args.row_count; columns = b.args.columns }
