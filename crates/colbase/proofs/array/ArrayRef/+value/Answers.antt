use Rattle.std.proofs.Common.{◌≡◌, ◌∙◌, Option, ap, sym}
use Rattle.std.specs.Prelude.{IsTrue, option_map}
use Rattle.coltypes.specs.declared.scalar.ScalarValue.{ScalarValue}
use Rattle.colbase.specs.Arrays.{dtype, masked}
use Rattle.colbase.specs.ArrayOf.{array_of}
use Rattle.coltypes.specs.CellOf.{cell_of}
use Rattle.coltypes.specs.Fits.{fits_type, is_nullable}
use Rattle.coltypes.specs.LogicalType.{nullability_of}
use Rattle.colbase.proofs.Nullable.{masked_fits, masked_null}
use Rattle.colbase.proofs.Results.{if_ok-map}
use Rattle.colbase.proofs.array.ArrayRef.+value.Goals as goal

pub returns-then-value-clause-fits : goal.returns-then-value-clause-fits
returns-then-value-clause-fits t c =
    let child = c.in-Masked.child in
    let w = c.in-Masked.v in
    let whole : c.args.self.now ≡ masked child w =
    sym c.self.view_is ∙ ap (λ x. array_of x.layout) (sym c.get-inner.ensures) ∙ ap array_of c.in-Masked.is in
    let before : Option ScalarValue → Type 0 = λ o. IsTrue (fits_type (option_map cell_of o) (dtype child)) in
    let after : Option ScalarValue → Type 0 = λ o. IsTrue (fits_type (option_map cell_of o) (dtype c.args.self.now)) in
    if_ok-map before after c.value_at.result
    (λ o h. ap (λ a. fits_type (option_map cell_of o) (dtype a)) whole ∙ masked_fits (option_map cell_of o) (dtype child) w h) c.value_at.ensures.fits

pub returns-else-value-clause-fits : goal.returns-else-value-clause-fits
returns-else-value-clause-fits t c =
    let child = c.in-Masked.child in
    let w = c.in-Masked.v in
    let whole : c.args.self.now ≡ masked child w =
    sym c.self.view_is ∙ ap (λ x. array_of x.layout) (sym c.get-inner.ensures) ∙ ap array_of c.in-Masked.is in
    ap (λ a. is_nullable (nullability_of (dtype a))) whole ∙ masked_null (dtype child) w c.args.index (sym c.value.ensures ∙ c.if-value.false)
