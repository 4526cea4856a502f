use Rattle.std.proofs.Common.{◌≡◌}
use Rattle.colbase.specs.Arrays.{MustRead, dtype, payload, rows}
use Rattle.coltypes.specs.Cell.{Cell}
use Rattle.colbase.specs.Selects.{Filters}
use Rattle.coltypes.specs.Keep.{keep}
use Rattle.coltypes.specs.Masks.{mask_bits}
use Rattle.colbase.proofs.Results.{if_ok-map}
use Rattle.colbase.proofs.array.ArrayRef.filter.Goals as goal

pub returns : goal.returns
returns c =
    let old = c.args.self.now in
    let bits = mask_bits c.args.mask.now in
    record {
      rows = if_ok-map (Filters old bits) (λ a. rows a ≡ keep bits (rows old)) c.filter_by.result (λ a h. h.kept_rows) c.filter_by.ensures.filtered;
      dtype = if_ok-map (Filters old bits) (λ a. dtype a ≡ dtype old) c.filter_by.result (λ a h. h.typed) c.filter_by.ensures.filtered;
      payload = if_ok-map (Filters old bits) (λ a. payload a ≡ keep bits (payload old)) c.filter_by.result (λ a h. h.kept_payload) c.filter_by.ensures.filtered;
      must_read = if_ok-map (Filters old bits) (λ a. (x : Cell) → MustRead a x → MustRead old x) c.filter_by.result (λ a h. h.must_read) c.filter_by.ensures.filtered;
      errors = c.filter_by.ensures.errors;
    }
