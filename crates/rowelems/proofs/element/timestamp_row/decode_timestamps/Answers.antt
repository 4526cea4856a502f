use Rattle.std.proofs.Common.{◌<◌, sym, subst}
use Rattle.coltypes.specs.declared.dtype.PType.TheVariants.{I64}
use Rattle.coltypes.specs.declared.values.PrimitiveValues.TheVariants as stored
use Rattle.rowelems.proofs.Numbers.{numbers-dense, numbers-read}
use Rattle.rowelems.proofs.element.timestamp_row.decode_timestamps.Goals as goal

pub returns-clause-read : goal.returns-clause-read
returns-clause-read c =
    numbers-read I64 c.args.array.now
    (numbers-dense I64 c.args.array.now (stored.I64 c.in_ok-values.values) (λ i h. (rw c.as_slice.ensures at c.checks.ensures) i (subst (λ n. i < n) (sym c.in_ok-values.ensures.len) h)) c.in_ok-values.ensures.same)
