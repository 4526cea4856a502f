use Rattle.std.proofs.Common.{◌∙◌, ap, subst}
use Rattle.std.specs.Prelude.{IsTrue, option_map}
use Rattle.coltypes.specs.declared.dtype.DType.{DType}
use Rattle.coltypes.specs.CellOf.{cell_of}
use Rattle.coltypes.specs.Fits.{fits_type}
use Rattle.coltypes.specs.LogicalTypeOf.{logical_type}
use Rattle.coltypes.proofs.Scalars.{fixed_type, repeated_fits}
use Rattle.coltypes.proofs.scalar.any.+any_value.Goals as goal

pub returns-in_ok-repeated-in-FixedSizeList-clause-fits : goal.returns-in_ok-repeated-in-FixedSizeList-clause-fits
returns-in_ok-repeated-in-FixedSizeList-clause-fits t c =
    let item = option_map cell_of c.in_ok-element-in-FixedSizeList.element in
    let P : DType → Type 0 = λ d. IsTrue (fits_type item (logical_type d)) in
    repeated_fits (logical_type c.in-FixedSizeList.element) (logical_type c.args.dtype.now) c.in-FixedSizeList.width c.in-FixedSizeList.field-2 c.in_ok-repeated-in-FixedSizeList.field-0 item
    (ap logical_type c.in-FixedSizeList.is ∙ fixed_type c.in-FixedSizeList.element c.in-FixedSizeList.width c.in-FixedSizeList.field-2) c.in_ok-repeated-in-FixedSizeList.ensures.made (subst P c.get.ensures c.in_ok-element-in-FixedSizeList.ensures.fits)
