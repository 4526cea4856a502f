-- Cells and logical types first, then what scalars, validity, masks and values are in their terms.
pub mod Cell
pub mod LogicalType
pub mod LogicalTypeOf
pub mod CellOf
pub mod Fits
pub mod Valid
pub mod Values
pub mod Views
pub mod Scalars
pub mod Masks
pub mod Checks
pub mod Cut
pub mod Keep
pub mod Equal
pub mod EqualLaws
