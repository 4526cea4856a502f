use Rattle.std.proofs.Common.{◌≡◌}
use Rattle.bitlane.specs.Bits.{tabulate}
use Rattle.coltypes.specs.declared.dtype.Nullability.TheVariants.{Nullable}
use Rattle.colbase.specs.Arrays.{dtype, len, payload, row, rows}
use Rattle.colbase.specs.Hides.{Hides, shown_row}
use Rattle.coltypes.specs.LogicalType.{with_nullability}
use Rattle.colbase.proofs.HiddenRows.{rows_hidden, payload_hidden}
use Rattle.colbase.proofs.Results.{if_ok-map}
use Rattle.colbase.proofs.array.ArrayRef.mask.Goals as goal

pub returns : goal.returns
returns c =
    let old = c.args.self.now in
    let bits = c.args.valid.now in
    record {
      rows = if_ok-map (Hides old bits) (λ a. rows a ≡ tabulate (shown_row bits (row old)) (len old)) c.hide.result (λ a h. rows_hidden old a bits h) c.hide.ensures.hidden;
      payload = if_ok-map (Hides old bits) (λ a. payload a ≡ payload old) c.hide.result (λ a h. payload_hidden old a bits h) c.hide.ensures.hidden;
      dtype = if_ok-map (Hides old bits) (λ a. dtype a ≡ with_nullability (dtype old) Nullable) c.hide.result (λ a h. h.typed) c.hide.ensures.hidden;
      errors = c.hide.ensures.errors;
    }
